-- Inputs and outputs of nodes, and what stands between a call and the called node's body.
use Rattle.std.proofs.Common.{◌≡◌, inr, ℕ, zero, suc, ◌+◌, Bool, true, false, ◌||◌, List, [], ◌∷◌, ◌++◌, Option, Some, None, length, map, refl, sym, ap, subst, ◌∙◌, arith, cond, add-one}
use Rattle.std.specs.Prelude.{if◌then◌else◌, ◌==◌, Contains, slice_get, slice_index_or, unwrap_or}
use Rattle.std.specs.List.{flat_map, list_all}
use Rattle.std.specs.Option.{option_map}
use Rattle.std.proofs.lemmas.List.{map-append}
use Rattle.std.proofs.lemmas.List.Elements.{Contains-append_right}
use Rattle.std.proofs.lemmas.List.Folds.{list_any-append}
use Rattle.hept_ast.specs.Texts.{Name, same, is_in, names, place_in}
use Rattle.hept_ast.specs.Scopes.{Clock, Text, Written, Scope, Called, text_of, inputs_of}
use Rattle.hept_ast.specs.Parts.{parts, parts_of, declared_in, declaration, variables}
use Rattle.hept_ast.specs.Clocks.{own_names}
use Rattle.hept_ast.specs.Settings.{written_node}
use Rattle.hept_ast.specs.Faults.{node_named, calls_of}
use Rattle.hept_ast.specs.Types.{Fits as Of_types, types_of, future_of, call_fit, same_types}
use Rattle.hept_ast.specs.Initial.{grade}
use Rattle.hept_ast.specs.Meaning.{call_of}
use Rattle.hept_ast.specs.declared.tree.Expr.{Expr}
use Rattle.hept_ast.specs.declared.tree.MergeBranch.{MergeBranch}
use Rattle.hept_ast.specs.declared.tree.Decl.{Decl}
use Rattle.hept_ast.specs.declared.tree.Node.{Node}
use Rattle.hept_ast.specs.declared.tree.Ty.{Ty}
use Rattle.hept_ast.specs.declared.tree.Form.{Form, out-Form}
use Rattle.hept_ast.specs.declared.tree.Form.TheOpen.{Form-F}
use Rattle.sound_expressions.specs.Sound.{Within, Sound, SoundArguments, is_constant, is_async_constant, is_variable, is_last, is_unary, is_binary, is_if, is_fby, is_pre, is_arrow, is_when, is_merge, is_call, is_async_call, is_get, no_arguments, an_argument}
use Rattle.accepted_meaning.specs.SoundNodes.{SoundNode, SoundInterface, within}
use Rattle.sound_expressions.specs.Demands.{NamesDiffer}
use Rattle.accepted_meaning.specs.Placing.{IsPlaced, at_top, at_call, at_branch, at_reset, at_state, site_of}
use Rattle.accepted_meaning.specs.Running.{Run, IsSoundRun, StandsIn, setting_of, text_run}
use Rattle.accepted_meaning.specs.Structure.{InputOf, OutputOf, IsCallIn, CallOf, AsyncCallOf, CallerOf, ArgumentOf, NodeOfName}
use Rattle.sound_expressions.proofs.FittedTypes.{same_is, both_true, types_is, fits_parts, async_fits, one_of, all_true}
use Rattle.accepted_meaning.proofs.FitsForms.{some_is}
use Rattle.accepted_meaning.proofs.FitsScopes.{find_parts, written_is}
use Rattle.sound_expressions.proofs.Lists.{same_self}
use Rattle.accepted_meaning.proofs.FitsTexts.{clock_of_seen}

-- ---- names that differ

true_not_false : {P : Type 0} (b : Bool) → b ≡ true → b ≡ false → P
true_not_false b e f = let g : true ≡ false = sym e ∙ f in cc

or_parts : (a b : Bool) → (a || b) ≡ false → (a ≡ false) × (b ≡ false)
or_parts true b e = cc
or_parts false b e = (refl, e)

differ_left : (xs ys : List Name) → NamesDiffer (xs ++ ys) → NamesDiffer xs
differ_left [] ys h = tt
differ_left (x ∷ xs) ys h = ((or_parts (is_in x xs) (is_in x ys) (sym (list_any-append (same x) xs ys) ∙ h.0)).0, differ_left xs ys h.1)

differ_right : (xs ys : List Name) → NamesDiffer (xs ++ ys) → NamesDiffer ys
differ_right [] ys h = h
differ_right (x ∷ xs) ys h = differ_right xs ys h.1

not_right : (x : Name) (xs ys : List Name) → NamesDiffer (xs ++ ys) → is_in x xs ≡ true → is_in x ys ≡ false
not_right x [] ys h e = cc
not_right x (y ∷ xs) ys h e = go (same x y) refl e (λ g. not_right x xs ys h.1 g)
  where
    go : (b : Bool) → same x y ≡ b → (b || is_in x xs) ≡ true → (is_in x xs ≡ true → is_in x ys ≡ false) → is_in x ys ≡ false
    go true f g later = ap (λ (z : Name). is_in z ys) (same_is x y f) ∙ (or_parts (is_in y xs) (is_in y ys) (sym (list_any-append (same y) xs ys) ∙ h.0)).1
    go false f g later = later g

-- ---- searches among declarations

declaration_left : (ds es : List Decl) (x : Name) (d : Decl) → declaration ds x ≡ Some d → declaration (ds ++ es) x ≡ Some d
declaration_left [] es x d e = cc
declaration_left (c ∷ ds) es x d e = go (same x c.name) e (λ h. declaration_left ds es x d h)
  where
    go : (b : Bool) → cond b (Some c) (declaration ds x) ≡ Some d → (declaration ds x ≡ Some d → declaration (ds ++ es) x ≡ Some d) → cond b (Some c) (declaration (ds ++ es) x) ≡ Some d
    go true h later = h
    go false h later = later h

declaration_right : (ds es : List Decl) (x : Name) → is_in x (names ds) ≡ false → declaration (ds ++ es) x ≡ declaration es x
declaration_right [] es x e = refl
declaration_right (c ∷ ds) es x e = go (same x c.name) e (λ h. declaration_right ds es x h)
  where
    go : (b : Bool) → (b || is_in x (names ds)) ≡ false → (is_in x (names ds) ≡ false → declaration (ds ++ es) x ≡ declaration es x) → cond b (Some c) (declaration (ds ++ es) x) ≡ declaration es x
    go true h later = cc
    go false h later = later h

-- the declaration of a name at its place
declared_at : (ds : List Decl) (x : Name) (d : Decl) → declaration ds x ≡ Some d → slice_get ds (place_in x (names ds)) ≡ Some d
declared_at [] x d e = cc
declared_at (c ∷ ds) x d e = go (same x c.name) e (λ h. declared_at ds x d h)
  where
    go : (b : Bool) → cond b (Some c) (declaration ds x) ≡ Some d → (declaration ds x ≡ Some d → slice_get ds (place_in x (names ds)) ≡ Some d) →
        slice_get (c ∷ ds) (if b then 0 else place_in x (names ds) + 1) ≡ Some d
    go true h later = h
    go false h later = ap (slice_get (c ∷ ds)) (add-one (place_in x (names ds))) ∙ later h

-- one of several declarations with different names
its_declaration : (ds : List Decl) (j : ℕ) (d : Decl) → NamesDiffer (names ds) → slice_get ds j ≡ Some d → declaration ds d.name ≡ Some d
its_declaration [] j d h e = cc
its_declaration (c ∷ ds) zero d h e = subst (λ (y : Decl). cond (same y.name c.name) (Some c) (declaration ds y.name) ≡ Some y) (some_is c d e) (ap (λ (b : Bool). cond b (Some c) (declaration ds c.name)) (same_self c.name))
its_declaration (c ∷ ds) (suc j) d h e = go (same d.name c.name) refl (its_declaration ds j d h.1 e)
  where
    go : (b : Bool) → same d.name c.name ≡ b → declaration ds d.name ≡ Some d → cond b (Some c) (declaration ds d.name) ≡ Some d
    go true f g = true_not_false (is_in c.name (names ds)) (subst (λ (x : Name). is_in x (names ds) ≡ true) (same_is d.name c.name f) (name_in ds d g)) h.0
      where
        name_in : (es : List Decl) (y : Decl) → declaration es d.name ≡ Some y → is_in d.name (names es) ≡ true
        name_in [] y k = cc
        name_in (z ∷ es) y k = by_test (same d.name z.name) k (λ l. name_in es y l)
          where
            by_test : (b : Bool) → cond b (Some z) (declaration es d.name) ≡ Some y → (declaration es d.name ≡ Some y → is_in d.name (names es) ≡ true) → (b || is_in d.name (names es)) ≡ true
            by_test true l later = refl
            by_test false l later = later l
    go false f g = g

name_at : (ds : List Decl) (j : ℕ) (d : Decl) → slice_get ds j ≡ Some d → slice_index_or (names ds) j [] ≡ d.name
name_at [] j d e = cc
name_at (c ∷ ds) zero d e = ap (λ (y : Decl). y.name) (some_is c d e)
name_at (c ∷ ds) (suc j) d e = name_at ds j d e

in_names : (ds : List Decl) (j : ℕ) (d : Decl) → slice_get ds j ≡ Some d → is_in d.name (names ds) ≡ true
in_names [] j d e = cc
in_names (c ∷ ds) zero d e = ap (λ (b : Bool). b || is_in d.name (names ds)) (ap (λ (y : Decl). same d.name y.name) (some_is c d e) ∙ same_self d.name)
in_names (c ∷ ds) (suc j) d e = or_true (same d.name c.name) (in_names ds j d e)
  where
    or_true : (b : Bool) {a : Bool} → a ≡ true → (b || a) ≡ true
    or_true true h = refl
    or_true false h = h

contained : {A : Type 0} (xs : List A) (j : ℕ) (x : A) → slice_get xs j ≡ Some x → Contains xs x
contained [] j x e = cc
contained (y ∷ ys) zero x e = (0, omega arith, some_is y x e)
contained (y ∷ ys) (suc j) x e = Contains-append_right (y ∷ []) ys x (contained ys j x e)

-- ---- inputs and outputs

node_names : (node : Node) → names (variables node) ≡ names node.inputs ++ names (flat_map (λ q. declared_in q.part) (parts node))
node_names node = map-append (λ (d : Decl). d.name) node.inputs (flat_map (λ q. declared_in q.part) (parts node))

-- what the node's own block declares is a front of what its parts declare
block_names : (node : Node) → (rest : List Name) × (names (flat_map (λ q. declared_in q.part) (parts node)) ≡ names (node.outputs ++ node.block.locals) ++ rest)
block_names node = (_, map-append (λ (d : Decl). d.name) (node.outputs ++ node.block.locals) (flat_map (λ q. declared_in q.part) (flat_map (parts_of []) node.block.body)))

inputs_apart : (k : Within) → SoundNode k → (x : Name) → is_in x (names k.node.inputs) ≡ true → is_in x (names (k.node.outputs ++ k.node.block.locals)) ≡ false
inputs_apart k sound x e =
    let (rest, f) = block_names k.node in
    let once : NamesDiffer (names k.node.inputs ++ (names (k.node.outputs ++ k.node.block.locals) ++ rest)) =
    subst NamesDiffer (node_names k.node ∙ ap (λ (ys : List Name). names k.node.inputs ++ ys) f) sound.once in
    (or_parts (is_in x (names (k.node.outputs ++ k.node.block.locals))) (is_in x rest)
    (sym (list_any-append (same x) (names (k.node.outputs ++ k.node.block.locals)) rest) ∙ not_right x (names k.node.inputs) (names (k.node.outputs ++ k.node.block.locals) ++ rest) once e)).0

outputs_differ : (k : Within) → SoundNode k → NamesDiffer (names k.node.outputs ++ names k.node.block.locals)
outputs_differ k sound =
    let (rest, f) = block_names k.node in
    let all : NamesDiffer (names k.node.inputs ++ (names (k.node.outputs ++ k.node.block.locals) ++ rest)) =
    subst NamesDiffer (node_names k.node ∙ ap (λ (ys : List Name). names k.node.inputs ++ ys) f) sound.once in
    let own : NamesDiffer (names (k.node.outputs ++ k.node.block.locals)) = differ_left (names (k.node.outputs ++ k.node.block.locals)) rest (differ_right (names k.node.inputs) (names (k.node.outputs ++ k.node.block.locals) ++ rest) all) in
    subst NamesDiffer (map-append (λ (d : Decl). d.name) k.node.outputs k.node.block.locals) own

apart_names : (k : Within) (x : Name) → is_in x (names (k.node.outputs ++ k.node.block.locals)) ≡ false → (is_in x (names k.node.outputs) ≡ false) × (is_in x (names k.node.block.locals) ≡ false)
apart_names k x e = or_parts (is_in x (names k.node.outputs)) (is_in x (names k.node.block.locals))
    (sym (list_any-append (same x) (names k.node.outputs) (names k.node.block.locals)) ∙ ap (is_in x) (sym (map-append (λ (d : Decl). d.name) k.node.outputs k.node.block.locals)) ∙ e)

not_in_both : (k : Within) (x : Name) → is_in x (names k.node.outputs) ≡ false → is_in x (names k.node.block.locals) ≡ false → is_in x (names (k.node.block.locals ++ k.node.outputs)) ≡ false
not_in_both k x e f = ap (is_in x) (map-append (λ (d : Decl). d.name) k.node.block.locals k.node.outputs) ∙ list_any-append (same x) (names k.node.block.locals) (names k.node.outputs) ∙ both_false (is_in x (names k.node.block.locals)) (is_in x (names k.node.outputs)) f e
  where
    both_false : (a b : Bool) → a ≡ false → b ≡ false → (a || b) ≡ false
    both_false a b h i = cc

pub input_of : (r : Run) → InputOf r
input_of r k n x d c node is_input sees =
    let sound : SoundNode k = node.sound_node in
    let apart = apart_names k x (inputs_apart k sound x is_input) in
    let found : declaration k.node.inputs x ≡ Some d = sym (declaration_right (k.node.block.locals ++ k.node.outputs) k.node.inputs x (not_in_both k x apart.0 apart.1)) ∙ sees.declared in
    let at : slice_get k.node.inputs (place_in x (names k.node.inputs)) ≡ Some d = declared_at k.node.inputs x d found in
    let name : x ≡ d.name = same_is x d.name (find_parts (λ (y : Decl). same x y.name) k.node.inputs d found).1 in
    let interface : SoundInterface k d = sound.inputs d (contained k.node.inputs (place_in x (names k.node.inputs)) d at) in
    (sym (clock_of_seen k [] x d c sees) ∙ ap k.clock name ∙ interface.0, ap k.grade name ∙ interface.1, at)

same_either : (b : Bool) (c : Clock) → c ≡ [] → (if b then c else []) ≡ []
same_either true c e = e
same_either false c e = refl

pub output_of : (r : Run) → OutputOf r
output_of r k n j d node at =
    let sound : SoundNode k = node.sound_node in
    let differ : NamesDiffer (names k.node.outputs ++ names k.node.block.locals) = outputs_differ k sound in
    let interface : SoundInterface k d = sound.outputs d (contained k.node.outputs j d at) in
    let not_local : is_in d.name (names k.node.block.locals) ≡ false = not_right d.name (names k.node.outputs) (names k.node.block.locals) differ (in_names k.node.outputs j d at) in
    let found : declaration k.node.outputs d.name ≡ Some d = its_declaration k.node.outputs j d (differ_left (names k.node.outputs) (names k.node.block.locals) differ) at in
    let seen : declaration (k.node.block.locals ++ k.node.outputs ++ k.node.inputs) d.name ≡ Some d =
    declaration_left (k.node.block.locals ++ k.node.outputs) k.node.inputs d.name d (declaration_right k.node.block.locals k.node.outputs d.name not_local ∙ found) in (
      record { declared = seen; here = same_either (is_in d.name (own_names k.node [])) (k.clock d.name) interface.0; outer = inr interface.0 },
      interface.1,
      name_at k.node.outputs j d at,
    )

-- ---- the nodes of names

named_node : (nodes : List Node) (n : ℕ) (f : Name) (g : Node) → node_named nodes f ≡ Some g → (m : ℕ) × (written_node nodes n f ≡ Some (Written (n + m) g)) × (slice_get nodes m ≡ Some g) × (f ≡ g.name)
named_node [] n f g e = cc
named_node (h ∷ nodes) n f g e = go (same f h.name) refl e (λ k. named_node nodes (suc n) f g k)
  where
    go : (b : Bool) → same f h.name ≡ b → cond b (Some h) (node_named nodes f) ≡ Some g →
        (node_named nodes f ≡ Some g → (m : ℕ) × (written_node nodes (suc n) f ≡ Some (Written (suc n + m) g)) × (slice_get nodes m ≡ Some g) × (f ≡ g.name)) →
        (m : ℕ) × ((if b then Some (Written n h) else written_node nodes (suc n) f) ≡ Some (Written (n + m) g)) × (slice_get (h ∷ nodes) m ≡ Some g) × (f ≡ g.name)
    go true k l later = let same_node : h ≡ g = some_is h g l in let none : n ≡ n + 0 = omega arith in (0, ap (λ (i : ℕ). Some (Written i h)) none ∙ ap (λ (x : Node). Some (Written (n + 0) x)) same_node, l, same_is f h.name k ∙ ap (λ (x : Node). x.name) same_node)
    go false k l later = let o = later l in let sum : suc n + o.0 ≡ n + suc o.0 = omega arith in (suc o.0, o.1 ∙ ap (λ (i : ℕ). Some (Written i g)) sum, o.2, o.3)

-- the node that a name is in a program
record Named (r : Run) (f : Name) (g : Node) : Type 0 where
  position : ℕ
  written : written_node r.program.program.nodes 0 f ≡ Some (Written position g)
  at : slice_get r.program.program.nodes position ≡ Some g
  name : f ≡ g.name

named_in : (r : Run) (f : Name) (g : Node) → node_named r.program.program.nodes f ≡ Some g → Named r f g
named_in r f g e =
    let o = named_node r.program.program.nodes 0 f g e in
    let sum : 0 + o.0 ≡ o.0 = omega arith in
    record { position = o.0; written = o.1 ∙ ap (λ (i : ℕ). Some (Written i g)) sum; at = o.2; name = o.3 }

number_of : Text → ℕ → ℕ
number_of (Written n node) m = n
number_of _ m = m

number_is : (n m : ℕ) (a b : Node) → Written n a ≡ Written m b → n ≡ m
unfolding number_of
number_is n m a b e = ap (λ x. number_of x n) e

written_at : (nodes : List Node) (n : ℕ) (f : Name) (m : ℕ) (g : Node) → written_node nodes n f ≡ Some (Written m g) → (i : ℕ) × (m ≡ n + i) × (slice_get nodes i ≡ Some g)
written_at [] n f m g e = cc
written_at (h ∷ nodes) n f m g e = go (same f h.name) e (λ k. written_at nodes (suc n) f m g k)
  where
    go : (b : Bool) → (if b then Some (Written n h) else written_node nodes (suc n) f) ≡ Some (Written m g) →
        (written_node nodes (suc n) f ≡ Some (Written m g) → (i : ℕ) × (m ≡ suc n + i) × (slice_get nodes i ≡ Some g)) → (i : ℕ) × (m ≡ n + i) × (slice_get (h ∷ nodes) i ≡ Some g)
    go true k later =
        let is : Written n h ≡ Written m g = some_is (Written n h) (Written m g) k in
        let number : n ≡ m = number_is n m h g is in
        (0, omega (arith, number), ap (λ (x : Node). Some x) (written_is n m h g is))
    go false k later = let o = later k in let sum = o.1 in (suc o.0, omega (arith, sum), o.2)

-- the node that a call names
abbrev Call_text : Run → List Expr → Text → Form-F Form Expr MergeBranch → Type 0
Call_text r args text v = call_of (setting_of r) v ≡ Some (args, text) → (f : Name) × (written_node r.program.program.nodes 0 f ≡ Some text)

abbrev pub of_call : List Expr → Text → List Expr × Text
of_call args text = (args, text)

pub pair_is : (args us : List Expr) (a b : Text) → Some (of_call args a) ≡ Some (of_call us b) → a ≡ b
pair_is args us a b e = ap (λ (o : Option (List Expr × Text)). (unwrap_or o (of_call args a)).1) e

option_text : (args us : List Expr) (o : Option Text) (text : Text) → option_map (of_call us) o ≡ Some (of_call args text) → o ≡ Some text
option_text args us None text e = cc
option_text args us (Some t) text e = ap (λ (x : Text). Some x) (pair_is us args t text e)

call_text : (r : Run) (args : List Expr) (text : Text) (v : Form-F Form Expr MergeBranch) → Call_text r args text v
call_text r args text (Form-F.Call f us) e = (f, option_text args us _ text e)
call_text r args text (Form-F.AsyncCall q f us) e = (f, option_text args us _ text e)
call_text r args text _ e = cc

pub placed_node : (r : Run) → IsSoundRun r → (s : Scope) (n : ℕ) (node : Node) → IsPlaced r.program (setting_of r) (text_run r) s → text_of s ≡ Written n node → slice_get r.program.program.nodes n ≡ Some node
placed_node r sound s n node at_top is =
    ap (slice_get r.program.program.nodes) (sym (number_is r.number n r.node node is)) ∙ sound.chosen ∙ ap (λ (x : Node). Some x) (written_is r.number n r.node node is)
placed_node r sound s n node (at_call {e = e} {args = args} {m = m} {callee = callee} placed text node_sound expr call) is =
    let o = call_text r args (Written m callee) (out-Form e.form) call in
    let at = written_at r.program.program.nodes 0 o.0 m callee o.1 in
    let place = at.1 in
    let here : at.0 ≡ n = let number : m ≡ n = number_is m n callee node is in omega (arith, place, number) in
    ap (slice_get r.program.program.nodes) (sym here) ∙ at.2 ∙ ap (λ (x : Node). Some x) (written_is m n callee node is)
placed_node r sound s n node (at_branch {s = outer} placed inside view among) is = placed_node r sound outer n node placed is
placed_node r sound s n node (at_reset {s = outer} placed inside view) is = placed_node r sound outer n node placed is
placed_node r sound s n node (at_state {s = outer} placed inside view at) is = placed_node r sound outer n node placed is

-- ---- arguments

-- the arguments of a call, with the declarations of what they are given to
argument_at : (k : Within) (s : Scope) (c : Clock) (args : List Expr) (tss : List (List Ty)) (ds : List Decl) (j : ℕ) (d : Decl) → SoundArguments k (site_of s) args c tss →
    types_of ds ≡ flat_map (λ (t : List Ty). t) tss → list_all (λ (t : List Ty). length t == 1) tss ≡ true → slice_get ds j ≡ Some d →
    (arg : Expr) × (slice_get args j ≡ Some arg) × Contains args arg × Sound k (site_of s) arg c (d.ty ∷ []) × (grade k.grade arg.form ≡ false)
argument_at k s c args tss [] j d h types single at = cc
argument_at k s c args tss (e ∷ ds) j d no_arguments types single at = cc
argument_at k s c args tss (e ∷ ds) j d (an_argument {e = arg} {es = es} {ts = ts} {tss = uss} sound defined rest) types single at =
    let both = all_true (λ (t : List Ty). length t == 1) ts uss single in
    let (u, one) = one_of ts both.0 in
    let joined : types_of (e ∷ ds) ≡ u ∷ flat_map (λ (t : List Ty). t) uss = types ∙ ap (λ (t : List Ty). t ++ flat_map (λ (x : List Ty). x) uss) one in
    let first : e.ty ≡ u = head_type e.ty u (types_of ds) (flat_map (λ (t : List Ty). t) uss) joined in
    let later : types_of ds ≡ flat_map (λ (t : List Ty). t) uss = tail_types e.ty u (types_of ds) (flat_map (λ (t : List Ty). t) uss) joined in
    by_place j at (subst (λ (t : Ty). Sound k (site_of s) arg c (t ∷ [])) (sym first) (subst (λ (x : List Ty). Sound k (site_of s) arg c x) one sound))
    (λ i g. argument_at k s c es uss ds i d rest later both.1 g)
  where
    head_type : (a b : Ty) (xs ys : List Ty) → a ∷ xs ≡ b ∷ ys → a ≡ b
    head_type a b xs ys f = cc

    tail_types : (a b : Ty) (xs ys : List Ty) → a ∷ xs ≡ b ∷ ys → xs ≡ ys
    tail_types a b xs ys f = cc

    by_place : (i : ℕ) → slice_get (e ∷ ds) i ≡ Some d → Sound k (site_of s) arg c (e.ty ∷ []) →
        ((n : ℕ) → slice_get ds n ≡ Some d → (x : Expr) × (slice_get es n ≡ Some x) × Contains es x × Sound k (site_of s) x c (d.ty ∷ []) × (grade k.grade x.form ≡ false)) →
        (x : Expr) × (slice_get (arg ∷ es) i ≡ Some x) × Contains (arg ∷ es) x × Sound k (site_of s) x c (d.ty ∷ []) × (grade k.grade x.form ≡ false)
    by_place zero f here others = (arg, refl, (0, omega arith, refl), subst (λ (y : Decl). Sound k (site_of s) arg c (y.ty ∷ [])) (some_is e d f) here, defined)
    by_place (suc i) f here others = let o = others i f in (o.0, o.1, Contains-append_right (arg ∷ []) es o.0 o.2, o.3, o.4)

pub call_parts : (g : Node) (tss : List (List Ty)) (ts : List Ty) → call_fit g tss ≡ Of_types ts → (types_of g.inputs ≡ flat_map (λ (t : List Ty). t) tss) × (list_all (λ (t : List Ty). length t == 1) tss ≡ true) × (types_of g.outputs ≡ ts)
call_parts g tss ts e =
    let p = fits_parts _ (types_of g.outputs) ts e in
    let q = both_true (same_types (types_of g.inputs) (flat_map (λ (t : List Ty). t) tss)) (list_all (λ (t : List Ty). length t == 1) tss) p.0 in
    (types_is (types_of g.inputs) (flat_map (λ (t : List Ty). t) tss) q.0, q.1, p.1)

pub argument_of : (r : Run) → ArgumentOf r
argument_of r k callee s e c own args text x d call is_input sees =
    let names_are : inputs_of text ≡ names callee.node.inputs = ap inputs_of call.text_is in
    let input = input_of r callee call.stands.number x d own call.stands.of_node (ap (is_in x) (sym names_are) ∙ is_input) sees in
    let parts_of_call = call_parts callee.node call.given (types_of callee.node.outputs) call.fits in
    let o = argument_at k s c args call.given callee.node.inputs (place_in x (names callee.node.inputs)) d call.arguments parts_of_call.0 parts_of_call.1 input.2 in
    (o.0, ap (λ (ys : List Name). slice_get args (place_in x ys)) names_are ∙ o.1, o.2, o.3, o.4)

-- ---- calls

args_are : (args us : List Expr) (a b : Text) → Some (of_call args a) ≡ Some (of_call us b) → args ≡ us
args_are args us a b e = ap (λ (o : Option (List Expr × Text)). (unwrap_or o (of_call args a)).0) e

nodes_are : (r : Run) (k : Within) (s : Scope) → StandsIn r k s → k.nodes ≡ r.program.program.nodes
nodes_are r k s stands = ap (λ (x : Within). x.nodes) stands.of_node.is

-- the call of a node in a scope where the called body stands
call_core : (r : Run) → NodeOfName r → (k : Within) (s : Scope) (e : Expr) (c : Clock) (args us : List Expr) (text : Text) (callee : Within) (f : Name) (g : Node) (tss : List (List Ty)) (vs : List Ty) → StandsIn r k s →
    node_named k.nodes f ≡ Some g → option_map (of_call us) (written_node r.program.program.nodes 0 f) ≡ Some (of_call args text) → call_of (setting_of r) (out-Form e.form) ≡ Some (args, text) →
    StandsIn r callee (Called s c e.place.0 args text) → SoundArguments k (site_of s) us c tss → call_fit g tss ≡ Of_types vs → is_in f (calls_of (Some k.node)) ≡ true → IsCallIn r k s e c args text callee
call_core r of_name k s e c args us text callee f g tss vs stands named one call body arguments fit calls =
    let n : Named r f g = named_in r f g (ap (λ (x : List Node). node_named x f) (sym (nodes_are r k s stands)) ∙ named) in
    let pair : Some (of_call us (Written n.position g)) ≡ Some (of_call args text) = ap (option_map (of_call us)) (sym n.written) ∙ one in
    let text_is : text ≡ Written body.number callee.node = body.text in
    let node_is : g ≡ callee.node = written_is n.position body.number g callee.node (pair_is us args (Written n.position g) text pair ∙ text_is) in
    let own : k.node ≡ stands.of_node.node = ap (λ (x : Within). x.node) stands.of_node.is in
    let this : node_named r.program.program.nodes k.node.name ≡ Some k.node =
    ap (λ (x : Node). node_named r.program.program.nodes x.name) own ∙ of_name stands.number stands.of_node.node stands.of_node.at ∙ ap (λ (x : Node). Some x) (sym own) in
    record {
      number = body.number;
      given = tss;
      text_is = text_is;
      call = call;
      stands = body;
      arguments = subst (λ (xs : List Expr). SoundArguments k (site_of s) xs c tss) (args_are us args (Written n.position g) text pair) arguments;
      fits = subst (λ (x : Node). call_fit x tss ≡ Of_types (types_of x.outputs)) node_is (fit ∙ ap Of_types (sym (call_parts g tss vs fit).2));
      calls = ap (λ (x : Name). is_in x (calls_of (node_named r.program.program.nodes k.node.name))) (sym (n.name ∙ ap (λ (x : Node). x.name) node_is)) ∙ ap (λ o. is_in f (calls_of o)) this ∙ calls;
    }

no_call : (r : Run) (e : Expr) (args : List Expr) (text : Text) (v : Form-F Form Expr MergeBranch) → out-Form e.form ≡ v → call_of (setting_of r) v ≡ None → call_of (setting_of r) (out-Form e.form) ≡ Some (args, text) → ⊥
no_call r e args text v is none call = let f : None ≡ Some (of_call args text) = sym none ∙ ap (call_of (setting_of r)) (sym is) ∙ call in cc

pub call_in : (r : Run) → NodeOfName r → (k : Within) (s : Scope) (e : Expr) (c : Clock) (ts : List Ty) (args : List Expr) (text : Text) (callee : Within) → StandsIn r k s → Sound k (site_of s) e c ts →
    call_of (setting_of r) (out-Form e.form) ≡ Some (args, text) → StandsIn r callee (Called s c e.place.0 args text) → IsCallIn r k s e c args text callee
call_in r of_name k s e c ts args text callee stands (is_call {f = f} {args = us} {g = g} {tss = tss} is named arguments fit leads calls) call body =
    call_core r of_name k s e c args us text callee f g tss ts stands named (sym (ap (call_of (setting_of r)) is) ∙ call) call body arguments fit calls
call_in r of_name k s e c ts args text callee stands (is_async_call {q = q} {f = f} {args = us} {g = g} {tss = tss} is named arguments fit leads calls) call body =
    let o = async_fits (call_fit g tss) ts fit in
    call_core r of_name k s e c args us text callee f g tss o.0 stands named (sym (ap (call_of (setting_of r)) is) ∙ call) call body arguments o.1 calls
call_in r of_name k s e c ts args text callee stands (is_constant {v = v} is known fits) call body = absurd (no_call r e args text (Form-F.Const v) is refl call)
call_in r of_name k s e c ts args text callee stands (is_async_constant {v = v} is known fits) call body = absurd (no_call r e args text (Form-F.AsyncConst v) is refl call)
call_in r of_name k s e c ts args text callee stands (is_variable {x = x} is sees) call body = absurd (no_call r e args text (Form-F.Var x) is refl call)
call_in r of_name k s e c ts args text callee stands (is_last {x = x} is sees init) call body = absurd (no_call r e args text (Form-F.Last x) is refl call)
call_in r of_name k s e c ts args text callee stands (is_unary {a = a} {op = op} is sound fit) call body = absurd (no_call r e args text (Form-F.Unary op a) is refl call)
call_in r of_name k s e c ts args text callee stands (is_binary {a = a} {b = b} {op = op} is first second fit nonzero) call body = absurd (no_call r e args text (Form-F.Binary op a b) is refl call)
call_in r of_name k s e c ts args text callee stands (is_if {i = i} {a = a} {b = b} is test first second fit) call body = absurd (no_call r e args text (Form-F.If i a b) is refl call)
call_in r of_name k s e c ts args text callee stands (is_fby {a = a} {b = b} is first second fit defined) call body = absurd (no_call r e args text (Form-F.Fby a b) is refl call)
call_in r of_name k s e c ts args text callee stands (is_pre {a = a} is sound fit defined) call body = absurd (no_call r e args text (Form-F.Pre a) is refl call)
call_in r of_name k s e c ts args text callee stands (is_arrow {a = a} {b = b} is first second fit) call body = absurd (no_call r e args text (Form-F.Arrow a b) is refl call)
call_in r of_name k s e c ts args text callee stands (is_when {a = a} {tag = tag} {x = x} is sees sound tagged has fit defined) call body = absurd (no_call r e args text (Form-F.When a tag x) is refl call)
call_in r of_name k s e c ts args text callee stands (is_merge {x = x} {bs = bs} is sees tagged defined parts all fit) call body = absurd (no_call r e args text (Form-F.Merge x bs) is refl call)
call_in r of_name k s e c ts args text callee stands (is_get {a = a} is sound fit) call body = absurd (no_call r e args text (Form-F.Get a) is refl call)

-- the body of a call in a scope
record Body (r : Run) (k : Within) (s : Scope) (e : Expr) (c : Clock) (args : List Expr) (g : Node) : Type 0 where
  position : ℕ
  callee : Within
  node : callee.node ≡ g
  call : call_of (setting_of r) (out-Form e.form) ≡ Some (of_call args (Written position g))
  stands : StandsIn r callee (Called s c e.place.0 args (Written position g))

body_in : (r : Run) → IsSoundRun r → (k : Within) (s : Scope) (e : Expr) (c : Clock) (ts : List Ty) (args : List Expr) (f : Name) (g : Node) → StandsIn r k s → Sound k (site_of s) e c ts →
    node_named k.nodes f ≡ Some g → call_of (setting_of r) (out-Form e.form) ≡ option_map (of_call args) (written_node r.program.program.nodes 0 f) → Body r k s e c args g
body_in r run k s e c ts args f g stands sound named is =
    let n : Named r f g = named_in r f g (ap (λ (x : List Node). node_named x f) (sym (nodes_are r k s stands)) ∙ named) in
    let (grades, node_sound) = run.sound.sound_nodes n.position g n.at in
    let call : call_of (setting_of r) (out-Form e.form) ≡ Some (of_call args (Written n.position g)) = is ∙ ap (option_map (of_call args)) n.written in
    let own : k ≡ within r.program stands.number stands.of_node.node stands.of_node.grades = stands.of_node.is in
    let placed : IsPlaced r.program (setting_of r) (text_run r) (Called s c e.place.0 args (Written n.position g)) =
    at_call stands.placed (stands.text ∙ ap (λ (x : Within). Written stands.number x.node) own) (subst SoundNode own stands.of_node.sound_node) (subst (λ (x : Within). Sound x (site_of s) e c ts) own sound) call in
    record {
      position = n.position;
      callee = within r.program n.position g grades;
      node = refl;
      call = call;
      stands = record {
        number = n.position;
        of_node = record { node = g; grades = grades; at = n.at; is = refl; sound_node = node_sound };
        text = refl;
        placed = placed;
      };
    }

form_call : Form-F Form Expr MergeBranch → List Expr
form_call (Form-F.Call f args) = args
form_call (Form-F.AsyncCall q f args) = args
form_call _ = []

form_name : Form-F Form Expr MergeBranch → Name
form_name (Form-F.Call f args) = f
form_name (Form-F.AsyncCall q f args) = f
form_name _ = []

-- 0 of what is no call, 1 of a call, 2 of one by async
form_kind : Form-F Form Expr MergeBranch → ℕ
form_kind (Form-F.Call f args) = 1
form_kind (Form-F.AsyncCall q f args) = 2
form_kind _ = 0

-- what a sound expression is that calls a node
record Calling (r : Run) (k : Within) (s : Scope) (e : Expr) (c : Clock) (ts : List Ty) : Type 0 where
  name : Name
  args : List Expr
  node : Node
  given : List (List Ty)
  types : List Ty
  named : node_named k.nodes name ≡ Some node
  fit : call_fit node given ≡ Of_types types
  call : call_of (setting_of r) (out-Form e.form) ≡ option_map (of_call args) (written_node r.program.program.nodes 0 name)
  args_are : form_call (out-Form e.form) ≡ args
  plain : form_kind (out-Form e.form) ≡ 1 → ts ≡ types
  later : form_kind (out-Form e.form) ≡ 2 → ts ≡ map future_of types

no_kind : (e : Expr) (v : Form-F Form Expr MergeBranch) {P : Type 0} → out-Form e.form ≡ v → form_kind v ≡ 0 → (form_kind (out-Form e.form) ≡ 0 → ⊥) → P
no_kind e v is zero' h = absurd (h (ap form_kind is ∙ zero'))

calling : (r : Run) (k : Within) (s : Scope) (e : Expr) (c : Clock) (ts : List Ty) → Sound k (site_of s) e c ts → (form_kind (out-Form e.form) ≡ 0 → ⊥) → Calling r k s e c ts
unfolding form_kind form_call
calling r k s e c ts (is_call {f = f} {args = us} {g = g} {tss = tss} is named args fit leads calls) h = record {
  name = f;
  args = us;
  node = g;
  given = tss;
  types = ts;
  named = named;
  fit = fit;
  call = ap (call_of (setting_of r)) is;
  args_are = ap form_call is;
  plain = λ i. refl;
  later = λ i. let j : 1 ≡ 2 = sym (ap form_kind is) ∙ i in cc;
}
calling r k s e c ts (is_async_call {q = q} {f = f} {args = us} {g = g} {tss = tss} is named args fit leads calls) h =
    let o = async_fits (call_fit g tss) ts fit in
    record {
      name = f;
      args = us;
      node = g;
      given = tss;
      types = o.0;
      named = named;
      fit = o.1;
      call = ap (call_of (setting_of r)) is;
      args_are = ap form_call is;
      plain = λ i. let j : 2 ≡ 1 = sym (ap form_kind is) ∙ i in cc;
      later = λ i. o.2;
    }
calling r k s e c ts (is_constant {v = v} is known fits) h = no_kind e (Form-F.Const v) is refl h
calling r k s e c ts (is_async_constant {v = v} is known fits) h = no_kind e (Form-F.AsyncConst v) is refl h
calling r k s e c ts (is_variable {x = x} is sees) h = no_kind e (Form-F.Var x) is refl h
calling r k s e c ts (is_last {x = x} is sees init) h = no_kind e (Form-F.Last x) is refl h
calling r k s e c ts (is_unary {a = a} {op = op} is sound fit) h = no_kind e (Form-F.Unary op a) is refl h
calling r k s e c ts (is_binary {a = a} {b = b} {op = op} is first second fit nonzero) h = no_kind e (Form-F.Binary op a b) is refl h
calling r k s e c ts (is_if {i = i} {a = a} {b = b} is test first second fit) h = no_kind e (Form-F.If i a b) is refl h
calling r k s e c ts (is_fby {a = a} {b = b} is first second fit defined) h = no_kind e (Form-F.Fby a b) is refl h
calling r k s e c ts (is_pre {a = a} is sound fit defined) h = no_kind e (Form-F.Pre a) is refl h
calling r k s e c ts (is_arrow {a = a} {b = b} is first second fit) h = no_kind e (Form-F.Arrow a b) is refl h
calling r k s e c ts (is_when {a = a} {tag = tag} {x = x} is sees sound tagged has fit defined) h = no_kind e (Form-F.When a tag x) is refl h
calling r k s e c ts (is_merge {x = x} {bs = bs} is sees tagged defined parts all fit) h = no_kind e (Form-F.Merge x bs) is refl h
calling r k s e c ts (is_get {a = a} is sound fit) h = no_kind e (Form-F.Get a) is refl h

-- the called body, with what it gives
record Called_there (r : Run) (k : Within) (s : Scope) (e : Expr) (c : Clock) (args : List Expr) (types : List Ty) : Type 0 where
  text : Text
  callee : Within
  call : IsCallIn r k s e c args text callee
  gives : types ≡ types_of callee.node.outputs

called_there : (r : Run) → IsSoundRun r → NodeOfName r → (k : Within) (s : Scope) (e : Expr) (c : Clock) (ts : List Ty) (args : List Expr) → StandsIn r k s → Sound k (site_of s) e c ts → (o : Calling r k s e c ts) → o.args ≡ args →
    Called_there r k s e c args o.types
called_there r run of_name k s e c ts args stands sound o args_is =
    let b : Body r k s e c args o.node = subst (λ (x : List Expr). Body r k s e c x o.node) args_is (body_in r run k s e c ts o.args o.name o.node stands sound o.named o.call) in
    record {
      text = Written b.position o.node;
      callee = b.callee;
      call = call_in r of_name k s e c ts args (Written b.position o.node) b.callee stands sound b.call b.stands;
      gives = sym (call_parts o.node o.given o.types o.fit).2 ∙ ap (λ (x : Node). types_of x.outputs) (sym b.node);
    }

pub call_of_node : (r : Run) → IsSoundRun r → NodeOfName r → CallOf r
unfolding form_kind form_call
call_of_node r run of_name k s e c ts f args stands sound is =
    let kind : form_kind (out-Form e.form) ≡ 1 = ap form_kind is in
    let o : Calling r k s e c ts = calling r k s e c ts sound (λ i. let j : 1 ≡ 0 = sym kind ∙ i in cc) in
    let t : Called_there r k s e c args o.types = called_there r run of_name k s e c ts args stands sound o (sym o.args_are ∙ ap form_call is) in
    (t.text, t.callee, t.call, o.plain kind ∙ t.gives)

pub async_call_of_node : (r : Run) → IsSoundRun r → NodeOfName r → AsyncCallOf r
unfolding form_kind form_call
async_call_of_node r run of_name k s e c ts q f args stands sound is =
    let kind : form_kind (out-Form e.form) ≡ 2 = ap form_kind is in
    let o : Calling r k s e c ts = calling r k s e c ts sound (λ i. let j : 2 ≡ 0 = sym kind ∙ i in cc) in
    let t : Called_there r k s e c args o.types = called_there r run of_name k s e c ts args stands sound o (sym o.args_are ∙ ap form_call is) in
    (t.text, t.callee, t.call, o.later kind ∙ ap (map future_of) t.gives)

-- ---- callers

pub caller_of : (r : Run) → IsSoundRun r → NodeOfName r → CallerOf r
caller_of r run of_name callee s c place args text stands = by_place place args text stands stands.placed
  where
    by_place : (p : ℕ) (us : List Expr) (x : Text) → StandsIn r callee (Called s c p us x) → IsPlaced r.program (setting_of r) (text_run r) (Called s c p us x) →
        (k : Within) × (e : Expr) × (ts : List Ty) × StandsIn r k s × Sound k (site_of s) e c ts × IsCallIn r k s e c us x callee × (e.place.0 ≡ p)
    by_place p us x body (at_call {e = e} {ts = ts} {args = vs} {n = n} {m = m} {node = node} {callee = g} {g = grades} placed of_text node_sound sound call) =
        let here : StandsIn r (within r.program n node grades) s = record {
          number = n;
          of_node = record { node = node; grades = grades; at = placed_node r run s n node placed of_text; is = refl; sound_node = node_sound };
          text = of_text;
          placed = placed;
        } in
        (within r.program n node grades, e, ts, here, sound, call_in r of_name (within r.program n node grades) s e c ts vs (Written m g) callee here sound call body, refl)
