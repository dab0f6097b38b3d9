-- What holds in the body of a node at an instant, where all holds before and what is around it is known.
use Rattle.std.proofs.Common.{◌≡◌, ◌⊎◌, inl, inr, ℕ, zero, suc, ◌<◌, ◌≤◌, ◌+◌, Bool, true, false, ◌||◌, List, [], ◌∷◌, ◌++◌, map, length, Option, Some, None, refl, sym, ap, subst, arith, ◌∙◌, append_assoc}
use Rattle.std.specs.Prelude.{if◌then◌else◌, ◌==◌, ⊤, slice_get}
use Rattle.std.proofs.lemmas.Bool.{false≢true}
use Rattle.hept_ast.specs.Texts.{Name, same, is_in, names, place_in}
use Rattle.hept_ast.specs.Scopes.{Clock, Scope, Top, Called, Under, Lowered, calls_around, equation_of}
use Rattle.hept_ast.specs.Causal.{reads}
use Rattle.hept_ast.specs.Parts.{declaration}
use Rattle.hept_ast.specs.Meaning.{Gives, Output, Variable, Defined, Active, Restarted, Answer, Absent, Value, Is, Reads as Row, answer_to, argument_rule, clock_of_equation, core_rule, own_rule, right_rule}
use Rattle.hept_ast.specs.Outputs.{said, asked}
use Rattle.hept_ast.specs.declared.tree.Expr.{Expr}
use Rattle.hept_ast.specs.declared.tree.CoreNode.{CoreNode}
use Rattle.hept_ast.specs.declared.tree.CoreEquation.{CoreEquation}
use Rattle.hept_ast.specs.declared.tree.Decl.{Decl}
use Rattle.hept_ast.specs.declared.tree.Ty.{Ty}
use Rattle.hept_ast.specs.TypedValues.{IsValueOf}
use Rattle.core_rules.specs.Cores.{as_node, core_clock, core_decls, equation_reads}
use Rattle.core_rules.specs.WellFormed.{CallsNode}
use Rattle.core_rules.proofs.Ends.{same_is}
use Rattle.schedule.specs.Order.{IsOrderedNode}
use Rattle.core_facts.specs.Undefined.{Among}
use Rattle.core_fitting.specs.Sound.{IsNamed, IsProper, Reads, SoundCore, SoundEquation, SoundLeft, SoundNode, SoundResets, SoundRight, Within, one_name, results_of, within}
use Rattle.core_fitting.specs.Holding.{Run, IsKnown, setting_of, types_in, Here, inactive, active, no_step, gone, given, Fits, HasInput, Holds, IsCallPath, RepliesFit, Surrounded, VariableFits, inner_call, off, on}
use Rattle.core_fitting.proofs.Presence.{Comes, Tells, Restarts, earlier_fewer, known_by, present, restarts}
use Rattle.core_fitting.proofs.NamesRead.{AllIn, in_left, in_right, only, step_names}
use Rattle.core_fitting.proofs.Fitting.{HasValue, TypesFit, contains_at, found_at, here_of, okay_map, same_some, tells_okay, types_fit}
use Rattle.core_fitting.proofs.Calls.{Inputs, call_gives, surrounded}
use Rattle.core_fitting.proofs.Forms.{CallsGive, Ready, gives, gives_here, inputs_before, outputs}

-- ---- the body of a node, as a scope

pub data IsFrame (node : CoreNode) : Scope → Type 0 where
  a_top : IsFrame node (Top (Lowered node))
  a_call : {s : Scope} {c : Clock} {place : ℕ} {args : List Expr} → IsFrame node (Called s c place args (Lowered node))

module _ (r : Run) (node : CoreNode) (t : ℕ) (x : Name) where
  pub variable_absent : (s : Scope) → IsFrame node s → Here r s t (core_clock node x) false → IsKnown r (Variable x s t) Absent
  variable_absent s a_top h = known_by r (Variable x s t) Absent tt (asked (present r s t (core_clock node x) false h) said)
  variable_absent s a_call h = known_by r (Variable x s t) Absent tt (asked (present r s t (core_clock node x) false h) said)

  pub variable_input : (s : Scope) (v : ℕ) → IsFrame node s → Here r s t (core_clock node x) true → Comes r (own_rule (setting_of r) s x t) (Value v) → IsKnown r (Variable x s t) (Value v)
  variable_input s v a_top h f = known_by r (Variable x s t) (Value v) tt (asked (present r s t (core_clock node x) true h) f)
  variable_input s v a_call h f = known_by r (Variable x s t) (Value v) tt (asked (present r s t (core_clock node x) true h) f)

  pub variable_defined : (s : Scope) (a : Answer) → IsFrame node s → is_in x (names node.inputs) ≡ false → Here r s t (core_clock node x) true → Tells a → IsKnown r (Defined x s t) a → IsKnown r (Variable x s t) a
  variable_defined s a a_top i h tell k = known_by r (Variable x s t) a tell
      (asked (present r s t (core_clock node x) true h) (subst (λ (b : Bool). Comes r (if b then Row t (place_in x (names node.inputs)) else answer_to (Defined x s t)) a) (sym i) (asked k said)))
  variable_defined s a (a_call {s = u} {c = c} {place = p} {args = args}) i h tell k = known_by r (Variable x s t) a tell
      (asked (present r s t (core_clock node x) true h)
      (subst (λ (b : Bool). Comes r (if b then argument_rule (setting_of r) (slice_get args (place_in x (names node.inputs))) c u t else answer_to (Defined x s t)) a) (sym i) (asked k said)))

  pub defined_by : (s : Scope) (a : Answer) (e : CoreEquation) → IsFrame node s → equation_of node x ≡ Some e → Tells a →
      Comes r (right_rule (setting_of r) e.left e.right x e.clock.steps (Under s e.resets) t) a → IsKnown r (Defined x s t) a
  defined_by s a e a_top eq tell f = known_by r (Defined x s t) a tell (subst (λ (o : Option CoreEquation). Comes r (core_rule (setting_of r) o x s t) a) (sym eq) f)
  defined_by s a e a_call eq tell f = known_by r (Defined x s t) a tell (subst (λ (o : Option CoreEquation). Comes r (core_rule (setting_of r) o x s t) a) (sym eq) f)

no_element : {A P : Type 0} (x : A) → None ≡ Some x → P
no_element x h = cc

-- the type of a name on a left side
no_left : {P : Type 0} (x : Name) → is_in x [] ≡ true → P
no_left x i = absurd (false≢true i)

pub left_type : (k : Within) (c : Clock) (x : Name) (d : Decl) → declaration (core_decls k.node) x ≡ Some d → (left : List Name) (ts : List Ty) → SoundLeft k c left ts → is_in x left ≡ true →
    slice_get ts (place_in x left) ≡ Some d.ty
left_type k c x d h [] ts sound i = no_left x i
left_type k c x d h (y ∷ ys) [] sound i = elim sound [ ]
left_type k c x d h (y ∷ ys) (u ∷ us) sound i = go (same x y) refl i (left_type k c x d h ys us sound.1)
  where
    next_place : (j : ℕ) → slice_get us j ≡ Some d.ty → slice_get (u ∷ us) (j + 1) ≡ Some d.ty
    next_place j e = let f : j + 1 ≡ suc j = omega arith in subst (λ (n : ℕ). slice_get (u ∷ us) n ≡ Some d.ty) (sym f) e

    go : (b : Bool) → same x y ≡ b → b || is_in x ys ≡ true → (is_in x ys ≡ true → slice_get us (place_in x ys) ≡ Some d.ty) → slice_get (u ∷ us) (if b then 0 else place_in x ys + 1) ≡ Some d.ty
    go true e j later =
        let z = sound.0 in
        let same_name : x ≡ y = same_is x y e in
        let both : d ≡ z.0 = same_some d z.0 (sym h ∙ subst (λ (w : Name). declaration (core_decls k.node) w ≡ Some z.0) (sym same_name) z.1.declared) in
        ap Some (sym z.2 ∙ sym (ap (λ (w : Decl). w.ty) both))
    go false e j later = next_place (place_in x ys) (later j)

-- ---- one instant

module _ (r : Run) (sound : SoundCore r.core) (k : Within) (node : SoundNode r.core k) (order : IsOrderedNode k.node) (s : Scope) (frame : IsFrame k.node s) (replies : RepliesFit r k.node (calls_around s)) (t : ℕ)
    (around : Surrounded r k s t) (holding : (p : ℕ) → p < t → Holds r k s p)
    (next : (f : Name) (g : CoreNode) (named : IsNamed r.core f g) → CallsNode (map as_node r.core.nodes) k.name f → (body : Scope) → IsFrame g body → RepliesFit r g (calls_around body) →
    ((p : ℕ) → p ≤ t → Surrounded r (within f g (sound.nodes f g named).0) body p) → Holds r (within f g (sound.nodes f g named).0) body t) where
  pub types : TypesFit r.core
  types = types_fit r.core sound.types sound.constructors

  alive_by : Surrounded r k s t → (b : Bool) × IsKnown r (Active s t) (Is b)
  alive_by (off a q) = (false, a)
  alive_by (on a q inputs) = (true, a)

  alive : (b : Bool) × IsKnown r (Active s t) (Is b)
  alive = alive_by around

  restarted_by : Surrounded r k s t → (b : Bool) × IsKnown r (Restarted s t) (Is b)
  restarted_by (off a q) = (_, q)
  restarted_by (on a q inputs) = (_, q)

  reads_of : (x : Name) (d : Decl) → declaration (core_decls k.node) x ≡ Some d → Reads k x d (core_clock k.node x)
  reads_of x d h = record { declared = h; clock = refl }

  now_or_before : (p : ℕ) → p ≤ t → (p < t) ⊎ (p ≡ t)
  now_or_before p h = grind arith

  -- the replies to the calls in a call
  inner_replies : (g : CoreNode) (place : ℕ) → ((path : List ℕ) (ts : List Ty) → IsCallPath r.core g path ts → IsCallPath r.core k.node (place ∷ path) ts) → RepliesFit r g (calls_around s ++ place ∷ [])
  inner_replies g place inside path ts n outs i e =
      replies (place ∷ path) ts n outs (inside path ts i) (subst (λ (l : List ℕ). r.replies l n ≡ Some outs) (append_assoc (calls_around s) (place ∷ []) path) e)

  module _ (Q : Name → Type 0) (avail : (x : Name) (d : Decl) (c : Clock) → Q x → Reads k x d c → VariableFits r k s t x d) (rs : List Name) (resets : SoundResets k rs) (reset_reads : AllIn Q rs) where
    again_at : (p : ℕ) → (p < t) ⊎ (p ≡ t) → Restarts r s p rs
    again_at p (inl l) =
        let h = holding p l in
        restarts r s rs p h.restarted.0 h.restarted.1 (λ x i. let d = resets x i in let v = h.variables x d.0 (core_clock k.node x) (reads_of x d.0 d.1) in (v.fits.answer, v.fits.known))
    again_at p (inr e) = subst (λ (q : ℕ). Restarts r s q rs) (sym e)
        (restarts r s rs t (restarted_by around).0 (restarted_by around).1
        (λ x i. let d = resets x i in let v = avail x d.0 (core_clock k.node x) (reset_reads x i) (reads_of x d.0 d.1) in (v.fits.answer, v.fits.known)))

    pub again : (p : ℕ) → p ≤ t → Restarts r s p rs
    again p l = again_at p (now_or_before p l)

    here_at_all : (c : Clock) → IsProper k c → Here r s t c true → (p : ℕ) → (p < t) ⊎ (p ≡ t) → (b : Bool) × Here r s p c b
    here_at_all c proper now p (inl l) = let h = holding p l in here_of r k s p (λ x. ⊤) h.active (λ x d e q reads. h.variables x d e reads) c proper (λ y i. tt)
    here_at_all c proper now p (inr e) = (true, subst (λ (q : ℕ). Here r s q c true) (sym e) now)

    pub calls : CallsGive r types k node s t rs Q avail again resets holding
    calls e c f args future g call named leads stands arguments proper now values =
        let all_given : (p : ℕ) → p ≤ t → Here r s p c true → Inputs r (Under s rs) p args c g.inputs = λ p l h. given_at p (now_or_before p l) h in
        let here : (p : ℕ) → p ≤ t → (b : Bool) × Here r s p c b = λ p l. here_at_all c proper now p (now_or_before p l) in
        call_gives r sound k s t rs again replies e c f args future g call named stands here all_given now
        (next f g named leads (Called (Under s rs) c e.place.0 args (Lowered g)) a_call (inner_replies g e.place.0 (λ path ts i. inner_call stands call named i))
        (surrounded r sound k s t rs again replies e c f args future g call named stands here all_given))
      where
        given_at : (p : ℕ) → (p < t) ⊎ (p ≡ t) → Here r s p c true → Inputs r (Under s rs) p args c g.inputs
        given_at p (inl l) h = inputs_before r types k node s t rs Q avail again resets holding args c g.inputs arguments proper p l h
        given_at p (inr e) h = subst (λ (q : ℕ). Inputs r (Under s rs) q args c g.inputs) (sym e) values

  -- ---- variables

  -- an equation's variables, where what the equation reads fits
  module _ (e : CoreEquation) (equation : SoundEquation r.core k e) (avail : (x : Name) (d : Decl) (c : Clock) → is_in x (equation_reads e) ≡ true → Reads k x d c → VariableFits r k s t x d) where
    abbrev Q : Name → Type 0
    Q x = is_in x (equation_reads e) ≡ true

    abbrev c : Clock
    c = e.clock.steps

    right_reads : AllIn Q (reads e.right.form)
    right_reads x i = in_left x (reads e.right.form ++ map (λ p. p.name) e.clock.steps) e.resets (in_left x (reads e.right.form) (map (λ p. p.name) e.clock.steps) i)

    clock_reads : AllIn Q (step_names c)
    clock_reads x i = in_left x (reads e.right.form ++ map (λ p. p.name) e.clock.steps) e.resets (in_right x (reads e.right.form) (map (λ p. p.name) e.clock.steps) i)

    reset_reads : AllIn Q e.resets
    reset_reads x i = in_right x (reads e.right.form ++ map (λ p. p.name) e.clock.steps) e.resets i

    ready : Ready k Q c
    ready = record { proper = equation.clock; steps = clock_reads }

    equation_again : (p : ℕ) → p ≤ t → Restarts r s p e.resets
    equation_again = again Q avail e.resets equation.resets reset_reads

    equation_calls : CallsGive r types k node s t e.resets Q avail (again Q avail e.resets equation.resets reset_reads) equation.resets holding
    equation_calls = calls Q avail e.resets equation.resets reset_reads

    -- a right side gives its variable's answer
    defined_one : (x y : Name) (d : Decl) (a : Answer) → x ≡ y → e.left ≡ y ∷ [] → equation_of k.node x ≡ Some e → Tells a → IsKnown r (Gives e.right c (Under s e.resets) t) a → IsKnown r (Defined x s t) a
    defined_one x y d a same_name left eq tell known = defined_by r k.node t x s a e frame eq tell
        (subst (λ (xs : List Name). Comes r (right_rule (setting_of r) xs e.right x c (Under s e.resets) t) a) (sym left) (asked known said))

    defined_many : (x : Name) (v : ℕ) → (length e.left == 1) ≡ false → equation_of k.node x ≡ Some e → IsKnown r (Output e.right (place_in x e.left) c (Under s e.resets) t) (Value v) → IsKnown r (Defined x s t) (Value v)
    defined_many x v many eq known = defined_by r k.node t x s (Value v) e frame eq tt
        (subst (λ (b : Bool). Comes r (if b then answer_to (Gives e.right c (Under s e.resets) t) else answer_to (Output e.right (place_in x e.left) c (Under s e.resets) t)) (Value v)) (sym many) (asked known said))

    present_variable : (x : Name) (d : Decl) → declaration (core_decls k.node) x ≡ Some d → equation_of k.node x ≡ Some e → is_in x (names k.node.inputs) ≡ false → is_in x e.left ≡ true → Here r s t c true →
        Fits r (Variable x s t) s t c d.ty (k.grade x) true
    present_variable x d h eq out i now = go equation.right
      where
        here : Here r s t (core_clock k.node x) true
        here = subst (λ (b : Clock). Here r s t b true) (sym (ap clock_of_equation eq)) now

        go : SoundRight r.core k e → Fits r (Variable x s t) s t c d.ty (k.grade x) true
        go (one_name {x = y} {d = b} {n = n} left sees right allows) =
            let same_name : x ≡ y = only x y (subst (λ (xs : List Name). is_in x xs ≡ true) left i) in
            let both : b ≡ d = same_some b d (sym (subst (λ (z : Name). declaration (core_decls k.node) z ≡ Some b) (sym same_name) sees.declared) ∙ h) in
            let f : Fits r (Gives e.right c (Under s e.resets) t) s t c b.ty n true = gives r types k node s t e.resets Q avail equation_again equation.resets holding equation_calls e.right c b.ty n right right_reads ready now in
            let tell : Tells f.answer = tells_okay r s t c b.ty n f.answer f.okay in
            record {
              answer = f.answer;
              known = variable_defined r k.node t x s f.answer frame out here tell (defined_one x y d f.answer same_name left eq tell f.known);
              okay = okay_map r s t c c b.ty d.ty n (k.grade x) f.answer
                  (λ l j. let a = allows l j in (a.0, subst (λ (z : Name). Among a.0 (k.grade z)) (sym same_name) a.1, earlier_fewer r s t c l a.0 a.2))
                  (λ v q. subst (λ (z : Decl). IsValueOf (types_in r) z.ty v) both q) f.okay;
            }
        go (results_of {ts = ts} many call left) =
            let v : HasValue r (Output e.right (place_in x e.left) c (Under s e.resets) t) d.ty = outputs r types k node s t e.resets Q avail equation_again equation.resets holding equation_calls e.right c ts call right_reads ready now (place_in x e.left) d.ty (left_type k c x d h e.left ts left i) in
            record { answer = Value v.value; known = variable_defined r k.node t x s (Value v.value) frame out here tt (defined_many x v.value many eq v.known); okay = given v.fits }

    variable_by : (x : Name) (d : Decl) → declaration (core_decls k.node) x ≡ Some d → equation_of k.node x ≡ Some e → is_in x (names k.node.inputs) ≡ false → is_in x e.left ≡ true → (b : Bool) → Here r s t c b → VariableFits r k s t x d
    variable_by x d h eq out i true now = record {
      present = true;
      here = subst (λ (b : Clock). Here r s t b true) (sym (ap clock_of_equation eq)) now;
      fits = subst (λ (b : Clock). Fits r (Variable x s t) s t b d.ty (k.grade x) true) (sym (ap clock_of_equation eq)) (present_variable x d h eq out i now);
    }
    variable_by x d h eq out i false now =
        let here : Here r s t (core_clock k.node x) false = subst (λ (b : Clock). Here r s t b false) (sym (ap clock_of_equation eq)) now in
        record { present = false; here = here; fits = record { answer = Absent; known = variable_absent r k.node t x s frame here; okay = gone } }

    pub equation_variable : (x : Name) (d : Decl) → declaration (core_decls k.node) x ≡ Some d → equation_of k.node x ≡ Some e → is_in x (names k.node.inputs) ≡ false → is_in x e.left ≡ true → VariableFits r k s t x d
    equation_variable x d h eq out i = let now = here_of r k s t Q alive avail c equation.clock clock_reads in variable_by x d h eq out i now.0 now.1

  -- an input
  input_by : Surrounded r k s t → (x : Name) (d : Decl) → declaration (core_decls k.node) x ≡ Some d → is_in x (names k.node.inputs) ≡ true → core_clock k.node x ≡ [] → VariableFits r k s t x d
  input_by (off a q) x d h i base = record { present = false; here = inactive a; fits = record { answer = Absent; known = variable_absent r k.node t x s frame (inactive a); okay = gone } }
  input_by (on a q inputs) x d h i base =
      let here : Here r s t (core_clock k.node x) true = subst (λ (b : Clock). Here r s t b true) (sym base) (active a no_step) in
      let v : HasInput r s t x d = inputs x d (core_clock k.node x) (reads_of x d h) i in
      record { present = true; here = here; fits = record { answer = Value v.value; known = variable_input r k.node t x s v.value frame here v.gives; okay = given v.fits } }

  abbrev Home : Name → Type 0
  Home x = ((is_in x (names k.node.inputs) ≡ true) × (core_clock k.node x ≡ [])) ⊎ ((e : CoreEquation) × (equation_of k.node x ≡ Some e) × (is_in x (names k.node.inputs) ≡ false))

  below_both : (i j m : ℕ) → j < suc i → m < j → m < i
  below_both i j m h l = omega arith

  -- along the order of the equations: those before position i
  abbrev Earlier_ones : ℕ → Type 0
  Earlier_ones i = (x : Name) (d : Decl) → declaration (core_decls k.node) x ≡ Some d → (e : CoreEquation) → equation_of k.node x ≡ Some e → is_in x (names k.node.inputs) ≡ false →
      (j : ℕ) → slice_get k.node.equations j ≡ Some e → is_in x e.left ≡ true → j < i → VariableFits r k s t x d

  by_home : (i : ℕ) → Earlier_ones i → (y : Name) (b : Decl) → declaration (core_decls k.node) y ≡ Some b → Home y →
      ((m : ℕ) (other : CoreEquation) → slice_get k.node.equations m ≡ Some other → is_in y other.left ≡ true → m < i) → VariableFits r k s t y b
  by_home i earlier y b h (inl g) before = input_by around y b h g.0 g.1
  by_home i earlier y b h (inr g) before =
      let at = found_at y k.node.equations g.0 g.1 in earlier y b h g.0 g.1 g.2 at.0 at.1 at.2 (before at.0 g.0 at.1 at.2)

  by_order : (i : ℕ) → Earlier_ones i
  by_order zero x d h e eq out j at left l = absurd (omega (arith, l))
  by_order (suc i) x d h e eq out j at left l = equation_variable e (node.equations e (contains_at k.node.equations j e at))
      (λ y b c q sees. by_home i (by_order i) y b sees.declared (node.defined y b sees.declared) (λ m other there m_left. below_both i j m l (order j m e other at there (y, q, m_left))))
      x d h eq out left

  within_list : {A : Type 0} (xs : List A) (j : ℕ) (x : A) → slice_get xs j ≡ Some x → j < length xs
  within_list [] j x h = no_element x h
  within_list (y ∷ ys) zero x h = omega arith
  within_list (y ∷ ys) (suc j) x h = let l = within_list ys j x h in omega arith

  variables : (x : Name) (d : Decl) (c : Clock) → Reads k x d c → VariableFits r k s t x d
  variables x d c sees = by_home (length k.node.equations) (by_order (length k.node.equations)) x d sees.declared (node.defined x d sees.declared) (λ m other there m_left. within_list k.node.equations m other there)

  pub holds : Holds r k s t
  holds = record {
    active = alive;
    restarted = restarted_by around;
    variables = variables;
    expressions = λ rs e c y n b resets sound_e proper here.
        gives_here r types k node s t rs (λ x. ⊤) (λ x d c q sees. variables x d c sees) (again (λ x. ⊤) (λ x d c q sees. variables x d c sees) rs resets (λ x i. tt)) resets holding
        (calls (λ x. ⊤) (λ x d c q sees. variables x d c sees) rs resets (λ x i. tt)) e c y n sound_e (λ x i. tt) (record { proper = proper; steps = λ x i. tt }) b here;
  }
