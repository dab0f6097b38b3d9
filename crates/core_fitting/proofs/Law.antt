-- In each body of the expanded text all holds at every instant: along the instants, calls within calls.
use Rattle.std.proofs.Common.{◌≡◌, ◌⊎◌, inl, inr, ℕ, zero, suc, ◌<◌, ◌≤◌, ◌+◌, Bool, true, false, List, [], ◌∷◌, ◌++◌, map, length, Some, None, refl, sym, subst, arith, append_assoc}
use Rattle.std.specs.Prelude.{if◌then◌else◌, ⊤, All, Contains, slice_get}
use Rattle.std.specs.List.{find}
use Rattle.std.proofs.lemmas.List.Elements.{All-contains}
use Rattle.hept_ast.specs.Texts.{Name, same, is_in, names, place_in}
use Rattle.hept_ast.specs.Scopes.{Clock, Scope, Top, Called, Under, Lowered, calls_around}
use Rattle.hept_ast.specs.Parts.{declaration}
use Rattle.hept_ast.specs.Meaning.{Gives, Defined, Active, Restarted, Value, Is, Reads as Row, answer_to}
use Rattle.hept_ast.specs.Outputs.{said, read}
use Rattle.hept_ast.specs.declared.tree.Expr.{Expr}
use Rattle.hept_ast.specs.declared.tree.CoreNode.{CoreNode}
use Rattle.hept_ast.specs.declared.tree.Decl.{Decl}
use Rattle.hept_ast.specs.declared.tree.Ty.{Ty}
use Rattle.core_rules.specs.Cores.{as_node, core_clock}
use Rattle.core_rules.specs.WellFormed.{Accessible, CallsNode, reach}
use Rattle.core_rules.proofs.CallsOf.{core_calls_end}
use Rattle.schedule.specs.Order.{IsOrderedNode}
use Rattle.sound_expressions.proofs.Values.{input_is_there}
use Rattle.core_facts.specs.Undefined.{Grades}
use Rattle.core_fitting.specs.Sound.{IsNamed, IsProper, Reads, SoundArguments, SoundCore, SoundNode, SoundResets, Within, no_arguments, an_argument, within}
use Rattle.core_fitting.specs.Holding.{Run, types_in, Here, HasInput, Holds, IsBody, IsCallPath, RepliesFit, Surrounded, chosen_body, called_body, inner_call, off, on}
use Rattle.core_fitting.specs.Laws.{HoldsEverywhere, IsFitRun}
use Rattle.core_fitting.proofs.Presence.{Comes, Restarts, below_or_same, known_by, restarts}
use Rattle.core_fitting.proofs.Fitting.{has_value, here_of, input_declared, same_some}
use Rattle.core_fitting.proofs.Calls.{Inputs, surrounded}
use Rattle.core_fitting.proofs.Bodies.{IsFrame, a_top, a_call, holds}

no_some : {A P : Type 0} (x : A) → None ≡ Some x → P
no_some x h = cc

found_in : (f : Name) (ns : List CoreNode) (g : CoreNode) → find (λ n. same f n.name) ns ≡ Some g → Contains ns g
found_in f [] g h = no_some g h
found_in f (n ∷ ns) g h = go (same f n.name) h (found_in f ns g)
  where
    go : (b : Bool) → (if b then Some n else find (λ n. same f n.name) ns) ≡ Some g → (find (λ n. same f n.name) ns ≡ Some g → Contains ns g) → Contains (n ∷ ns) g
    go true e later = (0, omega arith, same_some n g e)
    go false e later = let k = later e in let l = k.1 in (suc k.0, omega arith, k.2)

pub named_order : (ns : List CoreNode) → All IsOrderedNode ns → (f : Name) (g : CoreNode) → find (λ n. same f n.name) ns ≡ Some g → IsOrderedNode g
named_order ns all f g h = All-contains IsOrderedNode ns g all (found_in f ns g h)

-- the declaration of an input stands at its place
input_at_place : (x : Name) (ds : List Decl) (d : Decl) → declaration ds x ≡ Some d → slice_get ds (place_in x (names ds)) ≡ Some d
input_at_place x [] d h = no_some d h
input_at_place x (b ∷ ds) d h = go (same x b.name) h (input_at_place x ds d)
  where
    next_place : (j : ℕ) → slice_get ds j ≡ Some d → slice_get (b ∷ ds) (j + 1) ≡ Some d
    next_place j e = let f : j + 1 ≡ suc j = omega arith in subst (λ (n : ℕ). slice_get (b ∷ ds) n ≡ Some d) (sym f) e

    go : (i : Bool) → (if i then Some b else declaration ds x) ≡ Some d → (declaration ds x ≡ Some d → slice_get ds (place_in x (names ds)) ≡ Some d) → slice_get (b ∷ ds) (if i then 0 else place_in x (names ds) + 1) ≡ Some d
    go true e later = e
    go false e later = next_place (place_in x (names ds)) (later e)

module _ (r : Run) (sound : SoundCore r.core) (ordered : (f : Name) (g : CoreNode) → IsNamed r.core f g → IsOrderedNode g) where
  abbrev CalleesHold : Within → ℕ → Type 0
  CalleesHold k t = (f : Name) (g : CoreNode) (named : IsNamed r.core f g) → CallsNode (map as_node r.core.nodes) k.name f → (body : Scope) → IsFrame g body → RepliesFit r g (calls_around body) →
      ((p : ℕ) → p ≤ t → Surrounded r (within f g (sound.nodes f g named).0) body p) → Holds r (within f g (sound.nodes f g named).0) body t

  module _ (k : Within) (node : SoundNode r.core k) (order : IsOrderedNode k.node) (s : Scope) (frame : IsFrame k.node s) (replies : RepliesFit r k.node (calls_around s)) (next : (t : ℕ) → CalleesHold k t) where
    all_before : (t : ℕ) → ((p : ℕ) → p < t → Surrounded r k s p) → (p : ℕ) → p < t → Holds r k s p
    all_before zero around p l = absurd (omega (arith, l))
    all_before (suc t) around p l =
        split (below_or_same p t l) (λ q m. all_before t (λ i n. around i (omega arith)) q m)
      where
        split : (p ≡ t) ⊎ (p < t) → ((q : ℕ) → q < t → Holds r k s q) → Holds r k s p
        split (inl e) earlier = subst (λ (q : ℕ). Holds r k s q) (sym e) (holds r sound k node order s frame replies t (around t (omega arith)) earlier (next t))
        split (inr m) earlier = earlier p m

    all_at : (t : ℕ) → ((p : ℕ) → p ≤ t → Surrounded r k s p) → Holds r k s t
    all_at t around = holds r sound k node order s frame replies t (around t (omega arith)) (all_before t (λ p l. around p (omega arith))) (next t)

  pub body_holds : (f : Name) → Accessible (CallsNode (map as_node r.core.nodes)) f → (k : Within) → k.name ≡ f → SoundNode r.core k → IsOrderedNode k.node → (s : Scope) → IsFrame k.node s →
      RepliesFit r k.node (calls_around s) → (t : ℕ) → ((p : ℕ) → p ≤ t → Surrounded r k s p) → Holds r k s t
  body_holds f (reach h) k is node order s frame replies t around =
      all_at k node order s frame replies
      (λ q i g named leads body inner inside surround. body_holds i (h i (subst (λ (n : Name). CallsNode (map as_node r.core.nodes) n i) is leads)) (within i g (sound.nodes i g named).0) refl
      (sound.nodes i g named).1 (ordered i g named) body inner inside q surround) t around

-- ---- each body of the expanded text

-- with other grades
reads_with : (f : Name) (g : CoreNode) (a b : Grades) (x : Name) (d : Decl) (c : Clock) → Reads (within f g a) x d c → Reads (within f g b) x d c
reads_with f g a b x d c h = record { declared = h.declared; clock = h.clock }

around_with : (r : Run) (f : Name) (g : CoreNode) (a b : Grades) (s : Scope) (t : ℕ) → Surrounded r (within f g a) s t → Surrounded r (within f g b) s t
around_with r f g a b s t (off h q) = off h q
around_with r f g a b s t (on h q inputs) = on h q (λ x d c sees i. inputs x d c (reads_with f g b a x d c sees) i)

-- what is known of a body
pub record Body (r : Run) (k : Within) (s : Scope) : Type 0 where
  pub node : SoundNode r.core k
  pub order : IsOrderedNode k.node
  pub frame : IsFrame k.node s
  pub replies : RepliesFit r k.node (calls_around s)
  pub around : (p : ℕ) → p < length r.rows → Surrounded r k s p

module _ (r : Run) (chosen : Within) (run : IsFitRun r chosen) where
  ordered : (f : Name) (g : CoreNode) → IsNamed r.core f g → IsOrderedNode g
  ordered f g h = named_order r.core.nodes run.ordered.order f g h

  pub holds_in : (k : Within) (s : Scope) → Body r k s → (t : ℕ) → t < length r.rows → Holds r k s t
  holds_in k s b t l = body_holds r run.sound ordered k.name (core_calls_end r.core run.ordered.well_formed k.name) k refl b.node b.order s b.frame b.replies t (λ p m. b.around p (omega arith))

  chosen_input : (p : ℕ) → p < length r.rows → (x : Name) (d : Decl) (c : Clock) → Reads chosen x d c → is_in x (names chosen.node.inputs) ≡ true → HasInput r (Top (Lowered chosen.node)) p x d
  chosen_input p l x d c sees i =
      let at = input_at_place x chosen.node.inputs d (input_declared chosen.node x d i sees.declared) in
      let v = input_is_there (types_in r) chosen.node.inputs r.rows p (place_in x (names chosen.node.inputs)) d run.rows_fit l at in
      record {
        value = v.0;
        gives = subst (λ (b : Bool). Comes r (if b then Row p (place_in x (names chosen.node.inputs)) else answer_to (Defined x (Top (Lowered chosen.node)) p)) (Value v.0)) (sym i) (read v.1);
        fits = v.2;
      }

  chosen_around : (p : ℕ) → p < length r.rows → Surrounded r chosen (Top (Lowered chosen.node)) p
  chosen_around p l = on (known_by r (Active (Top (Lowered chosen.node)) p) (Is true) tt said) (known_by r (Restarted (Top (Lowered chosen.node)) p) (Is (r.marked p)) tt said) (chosen_input p l)

  -- the arguments of a call have values in a body in which all holds
  pub arguments_at : (k : Within) (s : Scope) (rs : List Name) (c : Clock) (t : ℕ) → Holds r k s t → SoundResets k rs → IsProper k c → Here r s t c true → (args : List Expr) (ds : List Decl) → SoundArguments r.core k rs args c ds → Inputs r (Under s rs) t args c ds
  arguments_at k s rs c t h resets proper now _ _ no_arguments = tt
  arguments_at k s rs c t h resets proper now _ _ (an_argument {e = e} {es = es} {d = d} {ds = ds} sound rest) = (
    has_value r (Gives e c (Under s rs) t) s t c d.ty [] refl (h.expressions rs e c d.ty [] true resets sound proper now),
    arguments_at k s rs c t h resets proper now es ds rest,
  )

  -- a restart by resets, in a body in which all holds
  pub restarts_at : (k : Within) (s : Scope) (rs : List Name) (t : ℕ) → Holds r k s t → SoundResets k rs → Restarts r s t rs
  restarts_at k s rs t h resets = restarts r s rs t h.restarted.0 h.restarted.1
      (λ x i. let d = resets x i in let v = h.variables x d.0 (core_clock k.node x) (record { declared = d.1; clock = refl }) in (v.fits.answer, v.fits.known))

  pub here_in : (k : Within) (s : Scope) (c : Clock) (t : ℕ) → Holds r k s t → IsProper k c → (b : Bool) × Here r s t c b
  here_in k s c t h proper = here_of r k s t (λ x. ⊤) h.active (λ x d e q sees. h.variables x d e sees) c proper (λ y i. tt)

  inner_replies : (k : Within) (s : Scope) (g : CoreNode) (place : ℕ) → RepliesFit r k.node (calls_around s) → ((path : List ℕ) (ts : List Ty) → IsCallPath r.core g path ts → IsCallPath r.core k.node (place ∷ path) ts) → RepliesFit r g (calls_around s ++ place ∷ [])
  inner_replies k s g place replies inside path ts n outs i e =
      replies (place ∷ path) ts n outs (inside path ts i) (subst (λ (l : List ℕ). r.replies l n ≡ Some outs) (append_assoc (calls_around s) (place ∷ []) path) e)

  pub body_of : (k : Within) (s : Scope) → IsBody r chosen k s → Body r k s
  body_of _ _ chosen_body = record { node = run.node; order = ordered chosen.name chosen.node run.named; frame = a_top; replies = run.replies_fit; around = chosen_around }
  body_of _ _ (called_body {k = k} {g = g} {s = s} {e = e} {x = x} {f = f} {c = c} {args = args} {future = future} {grades = grades} body in_node proper call named leads stands arguments node) =
      let b = body_of k s body in
      let resets = (b.node.equations e in_node).resets in
      let hold = holds_in k s b in
      record {
        node = node;
        order = ordered f g named;
        frame = a_call;
        replies = inner_replies k s g x.place.0 b.replies (λ path ts i. inner_call stands call named i);
        around = λ p l. around_with r f g (run.sound.nodes f g named).0 grades (Called (Under s e.resets) c x.place.0 args (Lowered g)) p
            (surrounded r run.sound k s p e.resets (λ q m. restarts_at k s e.resets q (hold q (omega arith)) resets) b.replies x c f args future g call named stands
            (λ q m. here_in k s c q (hold q (omega arith)) proper) (λ q m now. arguments_at k s e.resets c q (hold q (omega arith)) resets proper now args g.inputs arguments) p (omega arith));
      }

pub holds_everywhere : HoldsEverywhere
holds_everywhere r chosen run k s body t l = holds_in r chosen run k s (body_of r chosen run k s body) t l
