-- A well-formed core with the short static facts has all the facts that the law asks for.
use Rattle.std.proofs.Common.{◌≡◌, ◌⊎◌, inl, inr, ℕ, zero, suc, ◌<◌, Bool, true, false, ◌||◌, if◌then◌else◌, List, [], ◌∷◌, ◌++◌, map, length, refl, sym, ap, subst, ◌∙◌, arith, Option, Some, None, append-nil, append_assoc}
use Rattle.std.specs.Prelude.{All, Contains, ◌==◌, slice_index_or}
use Rattle.std.specs.List.{find, flat_map}
use Rattle.std.specs.Option.{option_map}
use Rattle.std.proofs.lemmas.Bool.{false≢true}
use Rattle.std.proofs.lemmas.List.Elements.{All-cons, All-nil, All-head, All-tail}
use Rattle.hept_ast.specs.Texts.{Name, is_in, names, same}
use Rattle.hept_ast.specs.Scopes.{Clock, equation_of}
use Rattle.hept_ast.specs.Meaning.{clock_of_equation}
use Rattle.hept_ast.specs.Parts.{declaration, expressions_of, inside, parts_of}
use Rattle.hept_ast.specs.Paths.{AllDiffer, IsAmong, at_head, in_tail}
use Rattle.hept_ast.specs.Faults.{Judging, called, calls_of, left_types, node_named, pair_types, type_of_variable}
use Rattle.hept_ast.specs.declared.tree.Core.{Core}
use Rattle.hept_ast.specs.declared.tree.CoreNode.{CoreNode}
use Rattle.hept_ast.specs.declared.tree.CoreEquation.{CoreEquation}
use Rattle.hept_ast.specs.declared.tree.Node.{Node}
use Rattle.hept_ast.specs.declared.tree.Decl.{Decl}
use Rattle.hept_ast.specs.declared.tree.Expr.{Expr}
use Rattle.hept_ast.specs.declared.tree.Ty.{Ty}
use Rattle.hept_ast.specs.declared.tree.Ty.TheVariants as ty
use Rattle.hept_ast.specs.declared.tree.Plain.TheVariants.{Bool as Truth_value}
use Rattle.hept_ast.specs.declared.tree.Form.{out-Form}
use Rattle.hept_ast.proofs.Unfolded.{static}
use Rattle.core_rules.specs.Cores.{as_equation, as_interface, as_node, core_clock, core_decls, core_judging}
use Rattle.core_rules.specs.WellFormed.{CallsNode, IsClockedEquation, IsNoLast, IsTypedEquation, IsWellFormedNode}
use Rattle.core_rules.proofs.CallsOf.{a_left_side_is_on_its_clock, in_first, in_second, not_both}
use Rattle.core_rules.proofs.Ends.{same_is, same_self}
use Rattle.sound_expressions.specs.Sound as program
use Rattle.sound_expressions.specs.Demands.{Demanded}
use Rattle.core_facts.specs.Undefined.{Allows, Among, Grades, first, next}
use Rattle.core_fitting.specs.Sound.{IsNamed, IsProper, SoundEquation, SoundLeft, SoundNode, SoundResets, SoundRight, Within, base, one_more, one_name, results_of, within, expressions_in}
use Rattle.core_facts.specs.Static.{AreProper, HasBranch, StaticEquation, StaticExpr, StaticNode}
use Rattle.core_facts.specs.Undefined.{may, lists_of}
use Rattle.core_fitting.specs.StaticLaws.{StaticFits, StaticIsSound}
use Rattle.core_fitting.proofs.NamesRead.{among_left, among_right, in_either, in_left, in_right}
use Rattle.core_fitting.proofs.Lists.{same_some}
use Rattle.sound_expressions.proofs.Expressions.{expression_sound}
use Rattle.core_fitting.proofs.StandIn.{program_within, stand_in}
use Rattle.core_fitting.proofs.Converted.{AllInner, Inner, call_converts, converts, declared_in_names}

-- ---- elements

no_some : {A P : Type 0} (x : A) → None ≡ Some x → P
no_some x h = cc

pub all_by : {A : Type 0} (P : A → Type 0) (xs : List A) → ((x : A) → Among x xs → P x) → All P xs
all_by P [] h = All-nil P
all_by P (x ∷ xs) h = All-cons P x xs (h x first) (all_by P xs (λ y i. h y (next i)))

pub of_all : {A : Type 0} (P : A → Type 0) (x : A) (xs : List A) → All P xs → Among x xs → P x
of_all P x _ all (first {xs = xs}) = All-head P x xs all
of_all P x _ all (next {y = y} {xs = xs} i) = of_all P x xs (All-tail P y xs all) i

pub as_among : {A : Type 0} (xs : List A) (x : A) → Contains xs x → Among x xs
as_among [] x i = let l = i.1 in absurd (omega arith)
as_among (y ∷ ys) x i = go i.0 i.1 i.2 (as_among ys x)
  where
    go : (j : ℕ) → j < length (y ∷ ys) → slice_index_or (y ∷ ys) j x ≡ x → (Contains ys x → Among x ys) → Among x (y ∷ ys)
    go zero l e later = subst (λ (z : _). Among z (y ∷ ys)) e first
    go (suc j) l e later = next (later (j, omega arith, e))

pub as_contains : {A : Type 0} (x : A) (xs : List A) → Among x xs → Contains xs x
as_contains x _ first = (0, omega arith, refl)
as_contains x _ (next {xs = xs} i) = let k = as_contains x xs i in let l = k.1 in (suc k.0, omega arith, k.2)

among_flat : {A B : Type 0} (f : A → List B) (x : A) (y : B) (xs : List A) → Among x xs → Among y (f x) → Among y (flat_map f xs)
among_flat f x y _ (first {xs = xs}) j = among_left y (f x) (flat_map f xs) j
among_flat f x y _ (next {y = z} {xs = xs} i) j = among_right y (f z) (flat_map f xs) (among_flat f x y xs i j)

in_flat : (f : Expr → List Name) (x : Expr) (n : Name) (xs : List Expr) → Among x xs → is_in n (f x) ≡ true → is_in n (flat_map f xs) ≡ true
in_flat f x n _ (first {xs = xs}) j = in_left n (f x) (flat_map f xs) j
in_flat f x n _ (next {y = z} {xs = xs} i) j = in_right n (f z) (flat_map f xs) (in_flat f x n xs i j)

is_among : (n : Name) (xs : List Name) → Among n xs → is_in n xs ≡ true
is_among n _ (first {xs = xs}) = in_first n (n ∷ []) xs (ap (λ b. b || false) (same_self n))
is_among n _ (next {y = y} {xs = xs} i) = in_second n (y ∷ []) xs (is_among n xs i)

-- ---- calls

core_expressions : (es : List CoreEquation) → flat_map (λ q. flat_map inside (expressions_of q.part)) (flat_map (parts_of []) (map as_equation es)) ≡ flat_map (λ e. inside e.right) es
unfolding static
core_expressions [] = refl
core_expressions (e ∷ es) = ap (λ (l : List Expr). l ++ flat_map (λ q. flat_map inside (expressions_of q.part)) (flat_map (parts_of []) (map as_equation es))) (append-nil (inside e.right)) ∙ ap (λ (l : List Expr). inside e.right ++ l) (core_expressions es)

calls_are : (node : CoreNode) → calls_of (Some (stand_in node)) ≡ flat_map (λ e. called e.form) (expressions_in node)
calls_are node = ap (λ (l : List Expr). flat_map (λ e. called e.form) l) (core_expressions node.equations)

same_calls : (node : CoreNode) → calls_of (Some (stand_in node)) ≡ calls_of (Some (as_node node))
same_calls node = refl

find_node : (core : Core) (f : Name) (ns : List CoreNode) (g : CoreNode) → find (λ n. same f n.name) ns ≡ Some g → node_named (map as_node ns) f ≡ Some (as_node g)
find_node core f [] g h = no_some g h
find_node core f (n ∷ ns) g h = go (same f n.name) h (find_node core f ns g)
  where
    go : (b : Bool) → (if b then Some n else find (λ n. same f n.name) ns) ≡ Some g → (find (λ n. same f n.name) ns ≡ Some g → node_named (map as_node ns) f ≡ Some (as_node g)) →
        (if b then Some (as_node n) else node_named (map as_node ns) f) ≡ Some (as_node g)
    go true e later = ap (λ (z : CoreNode). Some (as_node z)) (same_some n g e)
    go false e later = later e

find_interface : (f : Name) (ns : List CoreNode) (n : Node) → node_named (map as_interface ns) f ≡ Some n → (h : CoreNode) × (find (λ n. same f n.name) ns ≡ Some h) × (n ≡ as_interface h)
find_interface f [] n e = no_some n e
find_interface f (m ∷ ms) n e = go (same f m.name) e (find_interface f ms n)
  where
    go : (b : Bool) → (if b then Some (as_interface m) else node_named (map as_interface ms) f) ≡ Some n → (node_named (map as_interface ms) f ≡ Some n → (h : CoreNode) × (find (λ n. same f n.name) ms ≡ Some h) × (n ≡ as_interface h)) →
        (h : CoreNode) × ((if b then Some m else find (λ n. same f n.name) ms) ≡ Some h) × (n ≡ as_interface h)
    go true g later = (m, refl, sym (same_some (as_interface m) n g))
    go false g later = later g

-- ---- names and declarations

declares : (ds : List Decl) (x : Name) → is_in x (names ds) ≡ true → (d : Decl) × (declaration ds x ≡ Some d)
declares [] x h = absurd (false≢true h)
declares (b ∷ ds) x h = go (same x b.name) h (declares ds x)
  where
    go : (c : Bool) → c || is_in x (names ds) ≡ true → (is_in x (names ds) ≡ true → (d : Decl) × (declaration ds x ≡ Some d)) → (d : Decl) × ((if c then Some b else declaration ds x) ≡ Some d)
    go true i later = (b, refl)
    go false i later = later i

names_append : (xs ys : List Decl) → names (xs ++ ys) ≡ names xs ++ names ys
names_append [] ys = refl
names_append (x ∷ xs) ys = ap (λ (l : List Name). x.name ∷ l) (names_append xs ys)

or_cases : (b c : Bool) → b || c ≡ true → (b ≡ true) ⊎ (c ≡ true)
or_cases true c e = inl refl
or_cases false c e = inr e

name_among : (d : Decl) (es : List Decl) → Among d es → IsAmong d.name (names es)
name_among d _ first = at_head
name_among d _ (next {xs = es} j) = in_tail (name_among d es j)

-- a name that differs from those before finds its own declaration
own_declaration : (d : Decl) (ds : List Decl) → AllDiffer (names ds) → Among d ds → declaration ds d.name ≡ Some d
own_declaration d _ differ (first {xs = xs}) = ap (λ b. if b then Some d else declaration xs d.name) (same_self d.name)
own_declaration d _ differ (next {y = b} {xs = xs} i) = go (same d.name b.name) refl (own_declaration d xs differ.1 i)
  where
    go : (c : Bool) → same d.name b.name ≡ c → declaration xs d.name ≡ Some d → (if c then Some b else declaration xs d.name) ≡ Some d
    go true s later = absurd (differ.0 (subst (λ (n : Name). IsAmong n (names xs)) (same_is d.name b.name s) (name_among d xs i)))
    go false s later = later

declared_among : (ds : List Decl) (x : Name) (d : Decl) → declaration ds x ≡ Some d → Among d ds
declared_among [] x d e = no_some d e
declared_among (b ∷ ds) x d e = go (same x b.name) e (declared_among ds x d)
  where
    go : (c : Bool) → (if c then Some b else declaration ds x) ≡ Some d → (declaration ds x ≡ Some d → Among d ds) → Among d (b ∷ ds)
    go true h later = subst (λ (z : Decl). Among z (b ∷ ds)) (same_some b d h) first
    go false h later = next (later h)

in_among : (x : Name) (xs : List Name) → is_in x xs ≡ true → Among x xs
in_among x [] h = absurd (false≢true h)
in_among x (y ∷ ys) h = go (same x y) refl h (in_among x ys)
  where
    go : (c : Bool) → same x y ≡ c → c || is_in x ys ≡ true → (is_in x ys ≡ true → Among x ys) → Among x (y ∷ ys)
    go true s i later = subst (λ (z : Name). Among x (z ∷ ys)) (same_is x y s) first
    go false s i later = next (later i)

in_names : (d : Decl) (ds : List Decl) → Among d ds → is_in d.name (names ds) ≡ true
in_names d ds i = is_among d.name (names ds) (in_map d ds i)
  where
    in_map : (d : Decl) (ds : List Decl) → Among d ds → Among d.name (names ds)
    in_map d _ first = first
    in_map d _ (next {xs = xs} j) = next (in_map d xs j)

-- ---- left sides

type_known : (w : Judging) (x : Name) (t : Ty) → type_of_variable w x ≡ Some t → (d : Decl) × (declaration w.seen x ≡ Some d) × (d.ty ≡ t)
type_known w x t h = go (declaration w.seen x) refl h
  where
    go : (o : Option Decl) → declaration w.seen x ≡ o → option_map (λ d. d.ty) o ≡ Some t → (d : Decl) × (declaration w.seen x ≡ Some d) × (d.ty ≡ t)
    go None e f = no_some t f
    go (Some d) e f = (d, e, same_some d.ty t f)

record LeftParts (w : Judging) (x : Name) (xs : List Name) (ts : List Ty) : Type 0 where
  decl : Decl
  declared : declaration w.seen x ≡ Some decl
  others : List Ty
  rest : left_types w xs ≡ Some others
  all : decl.ty ∷ others ≡ ts

left_parts : (w : Judging) (x : Name) (xs : List Name) (ts : List Ty) → left_types w (x ∷ xs) ≡ Some ts → LeftParts w x xs ts
left_parts w x xs ts h = go (type_of_variable w x) (left_types w xs) refl refl h
  where
    go : (o : Option Ty) (p : Option (List Ty)) → type_of_variable w x ≡ o → left_types w xs ≡ p → pair_types o p ≡ Some ts → LeftParts w x xs ts
    go None p e f k = no_some ts k
    go (Some t) None e f k = no_some ts k
    go (Some t) (Some us) e f k =
        let d = type_known w x t e in
        record { decl = d.0; declared = d.1; others = us; rest = f; all = ap (λ (z : Ty). z ∷ us) d.2 ∙ same_some (t ∷ us) ts k }

left_sound : (core : Core) (k : Within) (c : Clock) (left : List Name) (ts : List Ty) → left_types (core_judging core k.node) left ≡ Some ts → ((x : Name) → is_in x left ≡ true → core_clock k.node x ≡ c) → SoundLeft k c left ts
left_sound core k c [] ts h on = subst (λ (l : List Ty). SoundLeft k c [] l) (same_some [] ts h) tt
left_sound core k c (x ∷ xs) ts h on =
    let p = left_parts (core_judging core k.node) x xs ts h in
    subst (λ (l : List Ty). SoundLeft k c (x ∷ xs) l) p.all (
      (p.decl, record { declared = p.declared; clock = on x (is_among x (x ∷ xs) first) }, refl),
      left_sound core k c xs p.others p.rest (λ y i. on y (in_second y (x ∷ []) xs i)),
    )

left_length : (w : Judging) (left : List Name) (ts : List Ty) → left_types w left ≡ Some ts → length ts ≡ length left
left_length w [] ts h = ap length (sym (same_some [] ts h))
left_length w (x ∷ xs) ts h = let p = left_parts w x xs ts h in sym (ap length p.all) ∙ ap suc (left_length w xs p.others p.rest)

-- ---- clocks of inputs

no_equation : (x : Name) (es : List CoreEquation) → is_in x (flat_map (λ e. e.left) es) ≡ false → find (λ e. is_in x e.left) es ≡ None
no_equation x [] h = refl
no_equation x (e ∷ es) h = go (is_in x e.left) refl (no_equation x es)
  where
    parts_false : (b : Bool) → is_in x e.left ≡ b → (b ≡ true → ⊥) × (is_in x (flat_map (λ e. e.left) es) ≡ false)
    parts_false b i = (
      λ t. false≢true (sym h ∙ in_left x e.left (flat_map (λ e. e.left) es) (i ∙ t)),
      not_in (is_in x (flat_map (λ e. e.left) es)) refl,
    )
      where
        not_in : (c : Bool) → is_in x (flat_map (λ e. e.left) es) ≡ c → is_in x (flat_map (λ e. e.left) es) ≡ false
        not_in true j = absurd (false≢true (sym h ∙ in_right x e.left (flat_map (λ e. e.left) es) j))
        not_in false j = j

    go : (b : Bool) → is_in x e.left ≡ b → (is_in x (flat_map (λ e. e.left) es) ≡ false → find (λ e. is_in x e.left) es ≡ None) → (if is_in x e.left then Some e else find (λ e. is_in x e.left) es) ≡ None
    go true i later = absurd ((parts_false true i).0 refl)
    go false i later = ap (λ c. if c then Some e else find (λ e. is_in x e.left) es) i ∙ later (parts_false false i).1

some_equation : (x : Name) (es : List CoreEquation) → is_in x (flat_map (λ e. e.left) es) ≡ true → (e : CoreEquation) × (find (λ e. is_in x e.left) es ≡ Some e)
some_equation x [] h = absurd (false≢true h)
some_equation x (e ∷ es) h = go (is_in x e.left) refl (some_equation x es)
  where
    rest : is_in x e.left ≡ false → is_in x (flat_map (λ e. e.left) es) ≡ true
    rest i = pick (in_either x e.left (flat_map (λ e. e.left) es) h)
      where
        pick : (is_in x e.left ≡ true) ⊎ (is_in x (flat_map (λ e. e.left) es) ≡ true) → is_in x (flat_map (λ e. e.left) es) ≡ true
        pick (inl j) = absurd (false≢true (sym i ∙ j))
        pick (inr j) = j

    go : (b : Bool) → is_in x e.left ≡ b → (is_in x (flat_map (λ e. e.left) es) ≡ true → (d : CoreEquation) × (find (λ e. is_in x e.left) es ≡ Some d)) → (d : CoreEquation) × ((if is_in x e.left then Some e else find (λ e. is_in x e.left) es) ≡ Some d)
    go true i later = (e, ap (λ c. if c then Some e else find (λ e. is_in x e.left) es) i)
    go false i later = let k = later (rest i) in (k.0, ap (λ c. if c then Some e else find (λ e. is_in x e.left) es) i ∙ k.1)

-- ---- one node

module _ (core : Core) (node : CoreNode) (wf : IsWellFormedNode core node) (name : Name) (is : IsNamed core name node) (g : Grades) (st : StaticNode core node g) where
  abbrev to : Within
  to = within name node g

  leads : (f : Name) → is_in f (calls_of (Some (stand_in node))) ≡ true → CallsNode (map as_node core.nodes) name f
  leads f h = subst (λ (o : Option Node). is_in f (calls_of o) ≡ true) (sym (find_node core name core.nodes node is)) (sym (ap (is_in f) (same_calls node)) ∙ h)

  named : (f : Name) (n : Node) → node_named (map as_interface core.nodes) f ≡ Some n → (h : CoreNode) × IsNamed core f h × (n ≡ as_interface h)
  named f n e = find_interface f core.nodes n e

  apart : AllDiffer (names node.inputs ++ names (node.outputs ++ node.locals))
  apart = subst AllDiffer (ap names (append_assoc node.inputs node.outputs node.locals) ∙ names_append node.inputs (node.outputs ++ node.locals)) wf.once

  input_base : (x : Name) → is_in x (names node.inputs) ≡ true → core_clock node x ≡ []
  input_base x h = ap clock_of_equation (no_equation x node.equations (wf.defined x ∙ not_there (is_in x (names (node.outputs ++ node.locals))) refl))
    where
      not_there : (b : Bool) → is_in x (names (node.outputs ++ node.locals)) ≡ b → is_in x (names (node.outputs ++ node.locals)) ≡ false
      not_there true i = absurd (false≢true (sym (not_both x (names node.inputs) (names (node.outputs ++ node.locals)) apart i) ∙ h))
      not_there false i = i

  proper_from : (before : Clock) → IsProper to before → (steps : Clock) → AreProper node g before steps → IsProper to (before ++ steps)
  proper_from before proper [] h = subst (IsProper to) (sym (append-nil before)) proper
  proper_from before proper (p ∷ steps) h =
      let d = declares (core_decls node) p.name h.0.0 in
      subst (IsProper to) (append_assoc before (p ∷ []) steps)
      (proper_from (before ++ p ∷ []) (one_more p proper (record { declared = d.1; clock = h.0.1 }) h.0.2) steps h.1)

  module _ (e : CoreEquation) (i : Among e node.equations) (se : StaticEquation core node g e) (te : IsTypedEquation core node e) (ce : IsClockedEquation node e) where
    stands : (x : Expr) → Among x (inside e.right) → Among x (expressions_in node)
    stands x j = among_flat (λ e. inside e.right) e x node.equations i j

    facts : (x : Expr) → Among x (inside e.right) → StaticExpr core g e.resets x
    facts x j = of_all (StaticExpr core g e.resets) x (inside e.right) se.right j

    demanded : All (Demanded (program_within core node (may g)) []) (inside e.right)
    demanded = all_by (Demanded (program_within core node (may g)) []) (inside e.right) (λ x j. let k = facts x j in record {
      met = k.demands;
      made = all_by (λ (f : Name). is_in f (calls_of (Some (stand_in node))) ≡ true) (called x.form)
          (λ f m. ap (is_in f) (calls_are node) ∙ in_flat (λ z. called z.form) x f (expressions_in node) (stands x j) (is_among f (called x.form) m));
      number = k.number;
      plain = k.plain;
      merged = λ y d none is tagged f. subst HasBranch none k.branch;
    })

    inner : AllInner core node name g e.resets named leads e.right
    inner = all_by (Inner core node name g e.resets named leads) (inside e.right) (λ x j. record {
      arrow = (facts x j).arrow;
      stands = as_contains x (expressions_in node) (stands x j);
      last = of_all (λ (z : Expr). IsNoLast (out-Form z.form)) x (inside e.right) te.last j;
    })

    right_sound : (ts : List Ty) × (Some ts ≡ Some te.types) × program.Sound (program_within core node (may g)) [] e.right e.clock.steps ts
    right_sound =
        let o = expression_sound (program_within core node (may g)) [] false (as_interface node) refl ce.numbers e.right false 0 te.faults ce.meets demanded in
        (o.0, sym o.1 ∙ te.right, subst (λ (c : Clock). program.Sound (program_within core node (may g)) [] e.right c o.0) ce.right o.2)

    sound_types : program.Sound (program_within core node (may g)) [] e.right e.clock.steps te.types
    sound_types = subst (λ (l : List Ty). program.Sound (program_within core node (may g)) [] e.right e.clock.steps l) (same_some right_sound.0 te.types right_sound.1) right_sound.2

    on_clock : (x : Name) → is_in x e.left ≡ true → core_clock node x ≡ e.clock.steps
    on_clock x j = a_left_side_is_on_its_clock core node e x wf (as_contains e node.equations i) j

    allowed : (x : Name) → is_in x e.left ≡ true → Allows (g x) (lists_of g e.resets e.right.form)
    allowed x j = se.left x j

    right_of : (left : List Name) → e.left ≡ left → SoundRight core to e
    right_of [] same = results_of (ap (λ (l : List Name). length l == 1) same)
        (call_converts core node name g e.resets named leads e.right e.clock.steps te.types sound_types inner (ap (λ n. n == 1) (left_length (core_judging core node) e.left te.types te.left) ∙ ap (λ (l : List Name). length l == 1) same))
        (left_sound core to e.clock.steps e.left te.types te.left on_clock)
    right_of (x ∷ []) same =
        let p = left_parts (core_judging core node) x [] te.types (subst (λ (l : List Name). left_types (core_judging core node) l ≡ Some te.types) same te.left) in
        let j : is_in x e.left ≡ true = subst (λ (l : List Name). is_in x l ≡ true) (sym same) (is_among x (x ∷ []) first) in
        one_name same (record { declared = p.declared; clock = on_clock x j })
        (converts core node name g e.resets named leads e.right e.clock.steps te.types sound_types inner p.decl.ty (sym p.all ∙ ap (λ (l : List Ty). p.decl.ty ∷ l) (sym (same_some [] p.others p.rest)))) (allowed x j)
    right_of (x ∷ y ∷ xs) same = results_of (ap (λ (l : List Name). length l == 1) same ∙ two x y xs)
        (call_converts core node name g e.resets named leads e.right e.clock.steps te.types sound_types inner
        (ap (λ n. n == 1) (left_length (core_judging core node) e.left te.types te.left) ∙ (ap (λ (l : List Name). length l == 1) same ∙ two x y xs)))
        (left_sound core to e.clock.steps e.left te.types te.left on_clock)
      where
        two : (x y : Name) (xs : List Name) → (length (x ∷ y ∷ xs) == 1) ≡ false
        two x y xs = grind arith

    resets_sound : SoundResets to e.resets
    resets_sound x j =
        let t = type_known (core_judging core node) x (ty.Plain Truth_value) (of_all (λ (z : Name). type_of_variable (core_judging core node) z ≡ Some (ty.Plain Truth_value)) x e.resets te.resets (in_among x e.resets j)) in
        (t.0, t.1, t.2, se.resets x j)

    equation_sound : SoundEquation core to e
    equation_sound = record { right = right_of e.left refl; clock = proper_from [] base e.clock.steps se.clock; resets = resets_sound }

  interface_grade : (d : Decl) → Among d (node.inputs ++ node.outputs) → g d.name ≡ []
  interface_grade d i = of_all (λ (b : Decl). g b.name ≡ []) d (node.inputs ++ node.outputs) st.interface i

  pub node_sound : SoundNode core to
  node_sound = record {
    equations = λ e i. let j = as_among node.equations e i in
        equation_sound e j (of_all (StaticEquation core node g) e node.equations st.equations j) (of_all (IsTypedEquation core node) e node.equations wf.typed j) (of_all (IsClockedEquation node) e node.equations wf.clocked j);
    inputs = λ d i. let j = as_among node.inputs d i in (
      record { declared = own_declaration d (core_decls node) wf.once (among_left d (node.inputs ++ node.outputs) node.locals (among_left d node.inputs node.outputs j)); clock = input_base d.name (in_names d node.inputs j) },
      interface_grade d (among_left d node.inputs node.outputs j),
    );
    outputs = λ d i. let j = as_among node.outputs d i in (
      record { declared = own_declaration d (core_decls node) wf.once (among_left d (node.inputs ++ node.outputs) node.locals (among_right d node.inputs node.outputs j)); clock = of_all (λ (b : Decl). core_clock node b.name ≡ []) d node.outputs wf.outputs j },
      interface_grade d (among_right d node.inputs node.outputs j),
    );
    defined = λ x d declared. home x (in_either x (names node.inputs) (names (node.outputs ++ node.locals))
        (sym (ap (is_in x) (ap names (append_assoc node.inputs node.outputs node.locals) ∙ names_append node.inputs (node.outputs ++ node.locals))) ∙ declared_in_names (core_decls node) x d declared));
  }
    where
      home : (x : Name) → (is_in x (names node.inputs) ≡ true) ⊎ (is_in x (names (node.outputs ++ node.locals)) ≡ true) →
          ((is_in x (names node.inputs) ≡ true) × (core_clock node x ≡ [])) ⊎ ((e : CoreEquation) × (equation_of node x ≡ Some e) × (is_in x (names node.inputs) ≡ false))
      home x (inl h) = inl (h, input_base x h)
      home x (inr h) = let k = some_equation x node.equations (wf.defined x ∙ h) in inr (k.0, k.1, not_both x (names node.inputs) (names (node.outputs ++ node.locals)) apart h)

named_among : (f : Name) (ns : List CoreNode) (n : CoreNode) → find (λ n. same f n.name) ns ≡ Some n → Among n ns
named_among f [] n e = no_some n e
named_among f (m ∷ ms) n e = go (same f m.name) e (named_among f ms n)
  where
    go : (c : Bool) → (if c then Some m else find (λ n. same f n.name) ms) ≡ Some n → (find (λ n. same f n.name) ms ≡ Some n → Among n ms) → Among n (m ∷ ms)
    go true h later = subst (λ (z : CoreNode). Among z (m ∷ ms)) (same_some m n h) first
    go false h later = next (later h)

pub static_is_sound : StaticIsSound
static_is_sound core wf st = record {
  types = st.types;
  constructors = st.constructors;
  nodes = λ f node is.
      let i = named_among f core.nodes node is in
      let s = of_all (λ (n : CoreNode). (g : Grades) × StaticNode core n g) node core.nodes st.nodes i in
      (s.0, node_sound core node (of_all (IsWellFormedNode core) node core.nodes wf i) f is s.0 s.1);
}

pub static_fits : StaticFits
static_fits r f node ordered st named rows replies =
    let s = static_is_sound r.core ordered.well_formed st in
    let g = s.nodes f node named in
    (g.0, record { ordered = ordered; sound = s; named = named; node = g.1; rows_fit = rows; replies_fit = replies })
