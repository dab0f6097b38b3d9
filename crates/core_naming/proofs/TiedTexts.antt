-- The texts of both cores: which equation defines a name, and on which clock it is.
use Rattle.std.proofs.Common.{◌≡◌, ◌==◌, Bool, true, false, cond, List, [], ◌∷◌, ◌++◌, length, Option, Some, None, Contains, All, refl, sym, ap, subst, ◌∙◌, append_assoc}
use Rattle.std.specs.List.{find}
use Rattle.std.proofs.lemmas.List.Elements.{All-nil, All-head, All-tail, All-cons, All-contains, All-append}
use Rattle.hept_ast.specs.Texts.{Name, same, is_in, names}
use Rattle.hept_ast.specs.Scopes.{Text, Written, Lowered, Scope, equation_of, inputs_of, outputs_of, text_of, node_decls}
use Rattle.hept_ast.specs.Meaning.{clock_of_equation}
use Rattle.hept_ast.specs.declared.tree.Core.{Core}
use Rattle.hept_ast.specs.declared.tree.CoreNode.{CoreNode}
use Rattle.hept_ast.specs.declared.tree.CoreEquation.{CoreEquation}
use Rattle.hept_ast.specs.declared.tree.Decl.{Decl}
use Rattle.hept_ast.specs.declared.tree.Form.{out-Form}
use Rattle.core_rules.specs.Cores.{core_decls}
use Rattle.core_naming.specs.Names.{IsNaming, new_equation, new_decl, with_right}
use Rattle.core_naming.specs.Ties.{clock_names, mentions, IsBodyOf, of_top, of_call, TiedText, the_node, a_node}
use Rattle.core_naming.proofs.Mentions.{NotIn, Free, not_cons, not_head, not_tail, same_turned, same_self}
use Rattle.core_naming.proofs.TiedForms.{IsNoGet, inside_free}

-- ---- nodes without a name

pub record IsQuietEquation (x : Name) (e : CoreEquation) : Type 0 where
  pub left : is_in x e.left ≡ false
  pub clock : is_in x (clock_names e.clock.steps) ≡ false
  pub resets : is_in x e.resets ≡ false
  pub right : is_in x (mentions e.right) ≡ false

pub record IsQuietNode (x : Name) (node : CoreNode) : Type 0 where
  pub decls : is_in x (names (core_decls node)) ≡ false
  pub equations : All (IsQuietEquation x) node.equations

-- the new name stands nowhere in the core, and an equation of several names is no `!` and not the subexpression that is named
pub record IsQuiet (core other : Core) (n : IsNaming core other) : Type 0 where
  pub nodes : All (IsQuietNode n.x) core.nodes
  pub several : (length n.step.equation.left == 1) ≡ false → (n.step.equation.right ≡ n.a → ⊥) × IsNoGet (out-Form n.step.equation.right.form)

-- ---- bodies

pub body_text : (text : Text) (s : Scope) → IsBodyOf text s → text ≡ text_of s
body_text text _ of_top = refl
body_text text _ of_call = refl

-- ---- lists

all_left : {X : Type 0} (P : X → Type 0) (xs ys : List X) → All P (xs ++ ys) → All P xs
all_left P [] ys h = All-nil P
all_left P (x ∷ xs) ys h = All-cons P x xs (All-head P x (xs ++ ys) h) (all_left P xs ys (All-tail P x (xs ++ ys) h))

pub all_right : {X : Type 0} (P : X → Type 0) (xs ys : List X) → All P (xs ++ ys) → All P ys
all_right P [] ys h = h
all_right P (x ∷ xs) ys h = all_right P xs ys (All-tail P x (xs ++ ys) h)

names_left : (x : Name) (ds es : List Decl) → is_in x (names (ds ++ es)) ≡ false → is_in x (names ds) ≡ false
names_left x [] es h = refl
names_left x (d ∷ ds) es h = not_cons x d.name (names ds) (not_head x d.name (names (ds ++ es)) h) (names_left x ds es (not_tail x d.name (names (ds ++ es)) h))

names_right : (x : Name) (ds es : List Decl) → is_in x (names (ds ++ es)) ≡ false → is_in x (names es) ≡ false
names_right x [] es h = h
names_right x (d ∷ ds) es h = names_right x ds es (not_tail x d.name (names (ds ++ es)) h)

-- a last element that fails is not found
find_before : {X : Type 0} (p : X → Bool) (xs : List X) (z : X) → p z ≡ false → find p (xs ++ z ∷ []) ≡ find p xs
find_before p [] z e = ap (λ (b : Bool). cond b (Some z) None) e
find_before p (x ∷ xs) z e = ap (λ (o : Option _). cond (p x) (Some x) o) (find_before p xs z e)

inputs_free : (x : Name) (node : CoreNode) → IsQuietNode x node → is_in x (names node.inputs) ≡ false
inputs_free x node h = names_left x node.inputs node.outputs (names_left x (node.inputs ++ node.outputs) node.locals h.decls)

outputs_free : (x : Name) (node : CoreNode) → IsQuietNode x node → is_in x (names node.outputs) ≡ false
outputs_free x node h = names_right x node.inputs node.outputs (names_left x (node.inputs ++ node.outputs) node.locals h.decls)

module _ (core other : Core) (n : IsNaming core other) (quiet : IsQuiet core other n) where
  abbrev pub Alike : Text → Text → Type 0
  Alike text moved = TiedText core other n text moved

  -- ---- nodes and equations without the new name

  core_nodes : All (IsQuietNode n.x) (n.front ++ n.node ∷ n.back)
  core_nodes = subst (λ (ms : List CoreNode). All (IsQuietNode n.x) ms) n.nodes quiet.nodes

  after_front : All (IsQuietNode n.x) (n.node ∷ n.back)
  after_front = all_right (IsQuietNode n.x) n.front (n.node ∷ n.back) core_nodes

  pub node_quiet : IsQuietNode n.x n.node
  node_quiet = All-head (IsQuietNode n.x) n.node n.back after_front

  pub other_quiet : (m : CoreNode) → Contains (n.front ++ n.back) m → IsQuietNode n.x m
  other_quiet m h =
      All-contains (IsQuietNode n.x) (n.front ++ n.back) m
      (All-append (IsQuietNode n.x) n.front n.back (all_left (IsQuietNode n.x) n.front (n.node ∷ n.back) core_nodes) (All-tail (IsQuietNode n.x) n.node n.back after_front)) h

  node_equations : All (IsQuietEquation n.x) (n.step.front ++ n.step.equation ∷ n.step.back)
  node_equations = subst (λ (es : List CoreEquation). All (IsQuietEquation n.x) es) n.step.equations node_quiet.equations

  after_equations : All (IsQuietEquation n.x) (n.step.equation ∷ n.step.back)
  after_equations = all_right (IsQuietEquation n.x) n.step.front (n.step.equation ∷ n.step.back) node_equations

  pub equation_quiet : IsQuietEquation n.x n.step.equation
  equation_quiet = All-head (IsQuietEquation n.x) n.step.equation n.step.back after_equations

  pub named_free : Free n.x n.a × NotIn n.x (clock_names n.d)
  named_free = inside_free core other n n.step.named equation_quiet.right equation_quiet.clock

  -- ---- what texts declare

  pub inputs_same : (text moved : Text) → Alike text moved → inputs_of moved ≡ inputs_of text
  inputs_same _ _ the_node = ap names n.step.inputs
  inputs_same _ _ (a_node h) = refl

  pub outputs_same : (text moved : Text) → Alike text moved → outputs_of moved ≡ outputs_of text
  outputs_same _ _ the_node = ap names n.step.outputs
  outputs_same _ _ (a_node h) = refl

  pub text_outputs_free : (text moved : Text) → Alike text moved → NotIn n.x (outputs_of text)
  text_outputs_free _ _ the_node = outputs_free n.x n.node node_quiet
  text_outputs_free _ _ (a_node {m = m} h) = outputs_free n.x m (other_quiet m h)

  abbrev pub found_decl : Name → Text → Option Decl
  found_decl y text = find (λ d. same y d.name) (node_decls text)

  moved_decls : node_decls (Lowered n.moved) ≡ node_decls (Lowered n.node) ++ new_decl n.x n.a n.t ∷ []
  moved_decls =
      ap (λ (ds : List Decl). ds ++ n.moved.outputs ++ n.moved.locals) n.step.inputs
      ∙ ap (λ (ds : List Decl). n.node.inputs ++ ds ++ n.moved.locals) n.step.outputs
      ∙ ap (λ (ds : List Decl). n.node.inputs ++ n.node.outputs ++ ds) n.step.locals
      ∙ sym (append_assoc (n.node.inputs ++ n.node.outputs) n.node.locals (new_decl n.x n.a n.t ∷ []))

  pub decl_same : (text moved : Text) (y : Name) → Alike text moved → same n.x y ≡ false → found_decl y moved ≡ found_decl y text
  decl_same _ _ y the_node e =
      ap (λ (ds : List Decl). find (λ d. same y d.name) ds) moved_decls
      ∙ find_before (λ (d : Decl). same y d.name) (node_decls (Lowered n.node)) (new_decl n.x n.a n.t) (same_turned n.x y e)
  decl_same _ _ y (a_node h) e = refl

  -- ---- the equation that defines a name

  pub data TiedEquation (s r : Scope) : CoreEquation → CoreEquation → Type 0 where
    same_equation : {e : CoreEquation} → IsQuietEquation n.x e → TiedEquation s r e e
    the_equation : IsBodyOf (Lowered n.node) s → IsBodyOf (Lowered n.moved) r → TiedEquation s r n.step.equation (with_right n.step.equation n.step.right)

  pub data TiedFound (s r : Scope) : Option CoreEquation → Option CoreEquation → Type 0 where
    neither : TiedFound s r None None
    found : {e m : CoreEquation} → TiedEquation s r e m → TiedFound s r (Some e) (Some m)

  abbrev defines : Name → CoreEquation → Bool
  defines y e = is_in y e.left

  either : {s r : Scope} {e m : CoreEquation} {o p : Option CoreEquation} (b : Bool) → TiedEquation s r e m → TiedFound s r o p → TiedFound s r (cond b (Some e) o) (cond b (Some m) p)
  either true h k = found h
  either false h k = k

  found_same : (s r : Scope) (y : Name) (es : List CoreEquation) → All (IsQuietEquation n.x) es → TiedFound s r (find (defines y) es) (find (defines y) es)
  found_same s r y [] h = neither
  found_same s r y (e ∷ es) h =
      either (is_in y e.left) (same_equation (All-head (IsQuietEquation n.x) e es h)) (found_same s r y es (All-tail (IsQuietEquation n.x) e es h))

  abbrev the_new : CoreEquation
  the_new = new_equation n.x n.a n.d n.step.equation.resets

  not_new : (y : Name) → same n.x y ≡ false → is_in y (n.x ∷ []) ≡ false
  not_new y e = not_cons y n.x [] (same_turned n.x y e) refl

  found_moved : (s r : Scope) (y : Name) → same n.x y ≡ false → IsBodyOf (Lowered n.node) s → IsBodyOf (Lowered n.moved) r →
      (front back : List CoreEquation) → All (IsQuietEquation n.x) front → All (IsQuietEquation n.x) back →
      TiedFound s r (find (defines y) (front ++ n.step.equation ∷ back)) (find (defines y) (front ++ with_right n.step.equation n.step.right ∷ back ++ the_new ∷ []))
  found_moved s r y e at moved_at [] back h k =
      either (is_in y n.step.equation.left) (the_equation at moved_at)
      (subst (λ (o : Option CoreEquation). TiedFound s r (find (defines y) back) o) (sym (find_before (defines y) back the_new (not_new y e))) (found_same s r y back k))
  found_moved s r y e at moved_at (f ∷ front) back h k =
      either (is_in y f.left) (same_equation (All-head (IsQuietEquation n.x) f front h))
      (found_moved s r y e at moved_at front back (All-tail (IsQuietEquation n.x) f front h) k)

  abbrev pub equation_in : Text → Name → Option CoreEquation
  equation_in (Written k node) y = None
  equation_in (Lowered node) y = equation_of node y

  pub equation_found : (s r : Scope) (text moved : Text) (y : Name) → Alike text moved → same n.x y ≡ false → IsBodyOf text s → IsBodyOf moved r →
      TiedFound s r (equation_in text y) (equation_in moved y)
  equation_found s r _ _ y the_node e at moved_at =
      subst (λ (es : List CoreEquation). TiedFound s r (find (defines y) es) (find (defines y) n.moved.equations)) (sym n.step.equations)
      (subst (λ (es : List CoreEquation). TiedFound s r (find (defines y) (n.step.front ++ n.step.equation ∷ n.step.back)) (find (defines y) es)) (sym n.step.others)
      (found_moved s r y e at moved_at n.step.front n.step.back
      (all_left (IsQuietEquation n.x) n.step.front (n.step.equation ∷ n.step.back) node_equations)
      (All-tail (IsQuietEquation n.x) n.step.equation n.step.back after_equations)))
  equation_found s r _ _ y (a_node {m = m} h) e at moved_at = found_same s r y m.equations (other_quiet m h).equations

  equation_clock : {s r : Scope} {e m : CoreEquation} → TiedEquation s r e m → (m.clock.steps ≡ e.clock.steps) × NotIn n.x (clock_names e.clock.steps)
  equation_clock (same_equation h) = (refl, h.clock)
  equation_clock (the_equation at moved_at) = (refl, equation_quiet.clock)

  pub found_clock : {s r : Scope} {o p : Option CoreEquation} → TiedFound s r o p → (clock_of_equation p ≡ clock_of_equation o) × NotIn n.x (clock_names (clock_of_equation o))
  found_clock neither = (refl, refl)
  found_clock (found h) = equation_clock h

  -- ---- the new name's own equation

  found_last : (front back : List CoreEquation) → All (IsQuietEquation n.x) front → All (IsQuietEquation n.x) back →
      find (defines n.x) (front ++ with_right n.step.equation n.step.right ∷ back ++ the_new ∷ []) ≡ Some the_new
  found_last [] [] h k = rw equation_quiet.left (rw (same_self n.x) refl)
  found_last [] (b ∷ back) h k = rw (All-head (IsQuietEquation n.x) b back k).left (found_last [] back h (All-tail (IsQuietEquation n.x) b back k))
  found_last (f ∷ front) back h k = rw (All-head (IsQuietEquation n.x) f front h).left (found_last front back (All-tail (IsQuietEquation n.x) f front h) k)

  pub new_found : equation_of n.moved n.x ≡ Some the_new
  new_found =
      ap (λ (es : List CoreEquation). find (defines n.x) es) n.step.others
      ∙ found_last n.step.front n.step.back (all_left (IsQuietEquation n.x) n.step.front (n.step.equation ∷ n.step.back) node_equations)
      (All-tail (IsQuietEquation n.x) n.step.equation n.step.back after_equations)

  -- it is no input
  pub new_no_input : is_in n.x (inputs_of (Lowered n.moved)) ≡ false
  new_no_input = subst (λ (ys : List Name). is_in n.x ys ≡ false) (sym (inputs_same _ _ the_node)) (inputs_free n.x n.node node_quiet)
