-- Calls end: no node of a sound program is led to by calls from itself.
use Rattle.std.proofs.Common.{◌≡◌, ℕ, zero, suc, ◌+◌, ◌≤◌, Bool, true, false, ◌||◌, if◌then◌else◌, List, [], ◌∷◌, ◌++◌, map, length, refl, sym, ap, subst, ◌∙◌, Option, Some, None, slice_get, arith, Contains, All}
use Rattle.std.specs.List.{list_any, flat_map}
use Rattle.std.proofs.lemmas.Bool.{false≢true}
use Rattle.std.proofs.lemmas.Grind.{flat_map-append}
use Rattle.std.proofs.lemmas.List.{length-map}
use Rattle.std.proofs.lemmas.List.Elements.{All-nil, All-cons, All-head, All-tail, All-append, All-weaker, All-contains, All-contains_itself}
use Rattle.hept_ast.specs.Texts.{Name, same, is_in}
use Rattle.hept_ast.specs.Scopes.{Clock}
use Rattle.hept_ast.specs.Parts.{Surroundings, Part, Block, Plain, Switch, Reset, Automaton, Transition, Placed, below, expressions_of, inside, parts}
use Rattle.hept_ast.specs.Faults.{called, calls_lead, calls_of, lead, node_named}
use Rattle.hept_ast.specs.declared.tree.Expr.{Expr}
use Rattle.hept_ast.specs.declared.tree.MergeBranch.{MergeBranch}
use Rattle.hept_ast.specs.declared.tree.Node.{Node}
use Rattle.hept_ast.specs.declared.tree.Ty.{Ty}
use Rattle.hept_ast.specs.declared.tree.Form.{Form, out-Form, roll-Form}
use Rattle.hept_ast.specs.declared.tree.Form.TheOpen.{Form-F}
use Rattle.hept_ast.specs.declared.tree.Form.TheViews.{roll-out-Form}
use Rattle.hept_ast.specs.declared.tree.Form.TheVariants as form
use Rattle.hept_ast.proofs.FormsOf.{below-Const, below-Var, below-Last, below-Unary, below-Binary, below-If, below-Fby, below-Pre, below-Arrow, below-When, below-Merge, below-Call, below-AsyncCall, below-AsyncConst, below-Get}
use Rattle.hept_ast.proofs.CalledForms.{called-Const, called-Var, called-Last, called-Unary, called-Binary, called-If, called-Fby, called-Pre, called-Arrow, called-When, called-Merge, called-Call, called-AsyncCall, called-AsyncConst, called-Get}
use Rattle.hept_ast.specs.Stages.{ClockedProgram}
use Rattle.sound_expressions.specs.Sound.{Within, Sound, SoundArguments, SoundBranches, no_arguments, an_argument, no_branches, a_branch, is_constant, is_async_constant, is_variable, is_last, is_unary, is_binary, is_if, is_fby, is_pre, is_arrow, is_when, is_merge, is_call, is_async_call, is_get}
use Rattle.accepted_meaning.specs.SoundNodes.{SoundNode, SoundPart, SoundProgram, within}
use Rattle.sound_expressions.specs.Demands.{NamesDiffer}
use Rattle.accepted_meaning.specs.Running.{IsSoundRun, Run}
use Rattle.accepted_meaning.specs.Structure.{Accessible, CallsEnd, CallsNode, NodeOfName}
use Rattle.sound_expressions.proofs.Lists.{same_is, same_self}
use Rattle.accepted_meaning.proofs.StaticParts.{among}
use Rattle.accepted_meaning.proofs.StaticNodes.{named_node}
use Rattle.accepted_meaning.proofs.StaticEnds.{Chain, all_end}

-- ---- the calls inside an expression

abbrev calls_at : Expr → List Name
calls_at e = called e.form

abbrev calls_inside : Form → List Name
calls_inside f = called f ++ flat_map calls_at (below f)

-- the node that is called leads to none that calls it
abbrev LeadsNotBack : Within → Name → Type 0
LeadsNotBack k f = (g : Node) × (node_named k.nodes f ≡ Some g) × (calls_lead k.nodes g.name k.node.name ≡ false)

by_view : (f : Form) (v : Form-F Form Expr MergeBranch) (g : Form) → out-Form f ≡ v → roll-Form v ≡ g → f ≡ g
by_view f v g o r = sym (roll-out-Form f) ∙ ap roll-Form o ∙ r

module _ (k : Within) (site : Surroundings) where
  abbrev P : Name → Type 0
  P f = LeadsNotBack k f

  of_below : (f g : Form) (xs : List Name) (es : List Expr) → f ≡ g → called g ≡ xs → below g ≡ es → All P xs → All P (flat_map calls_at es) → All P (calls_inside f)
  of_below f g xs es is c b h r =
      subst (λ (z : Form). All P (calls_inside z)) (sym is)
      (All-append P (called g) (flat_map calls_at (below g)) (subst (All P) (sym c) h) (subst (λ (z : List Expr). All P (flat_map calls_at z)) (sym b) r))

  none : All P []
  none = All-nil P

  two : (xs ys : List Expr) → All P (flat_map calls_at xs) → All P (flat_map calls_at ys) → All P (flat_map calls_at (xs ++ ys))
  two xs ys h r = subst (All P) (sym (flat_map-append calls_at xs ys)) (All-append P (flat_map calls_at xs) (flat_map calls_at ys) h r)

  mutual
    sound_calls : (e : Expr) (c : Clock) (ts : List Ty) → Sound k site e c ts → All P (calls_inside e.form)
    sound_calls e c ts (is_constant {v = v} o t n) = of_below e.form (form.Const v) [] [] (by_view e.form _ _ o (form.rolls-Const v)) (called-Const v) (below-Const v) none none
    sound_calls e c ts (is_async_constant {v = v} o t n) = of_below e.form (form.AsyncConst v) [] [] (by_view e.form _ _ o (form.rolls-AsyncConst v)) (called-AsyncConst v) (below-AsyncConst v) none none
    sound_calls e c ts (is_variable {x = x} o s) = of_below e.form (form.Var x) [] [] (by_view e.form _ _ o (form.rolls-Var x)) (called-Var x) (below-Var x) none none
    sound_calls e c ts (is_last {x = x} o s i) = of_below e.form (form.Last x) [] [] (by_view e.form _ _ o (form.rolls-Last x)) (called-Last x) (below-Last x) none none
    sound_calls e c ts (is_unary {a = a} {op = op} {us = us} o s f) =
        of_below e.form (form.Unary op a) [] (inside a) (by_view e.form _ _ o (form.rolls-Unary op a)) (called-Unary op a) (below-Unary op a) none (sound_calls a c us s)
    sound_calls e c ts (is_binary {a = a} {b = b} {op = op} {us = us} {vs = vs} o s r f n) =
        of_below e.form (form.Binary op a b) [] (inside a ++ inside b) (by_view e.form _ _ o (form.rolls-Binary op a b)) (called-Binary op a b) (below-Binary op a b) none (two (inside a) (inside b) (sound_calls a c us s) (sound_calls b c vs r))
    sound_calls e c ts (is_if {i = i} {a = a} {b = b} {is = is} {us = us} {vs = vs} o h s r f) =
        of_below e.form (form.If i a b) [] (inside i ++ inside a ++ inside b) (by_view e.form _ _ o (form.rolls-If i a b)) (called-If i a b) (below-If i a b) none
        (two (inside i ++ inside a) (inside b) (two (inside i) (inside a) (sound_calls i c is h) (sound_calls a c us s)) (sound_calls b c vs r))
    sound_calls e c ts (is_fby {a = a} {b = b} {us = us} {vs = vs} o s r f n) =
        of_below e.form (form.Fby a b) [] (inside a ++ inside b) (by_view e.form _ _ o (form.rolls-Fby a b)) (called-Fby a b) (below-Fby a b) none (two (inside a) (inside b) (sound_calls a c us s) (sound_calls b c vs r))
    sound_calls e c ts (is_pre {a = a} {us = us} o s f n) =
        of_below e.form (form.Pre a) [] (inside a) (by_view e.form _ _ o (form.rolls-Pre a)) (called-Pre a) (below-Pre a) none (sound_calls a c us s)
    sound_calls e c ts (is_arrow {a = a} {b = b} {us = us} {vs = vs} o s r f) =
        of_below e.form (form.Arrow a b) [] (inside a ++ inside b) (by_view e.form _ _ o (form.rolls-Arrow a b)) (called-Arrow a b) (below-Arrow a b) none (two (inside a) (inside b) (sound_calls a c us s) (sound_calls b c vs r))
    sound_calls e c ts (is_when {a = a} {c = d} {tag = tag} {x = x} {us = us} o v s t h f g) =
        of_below e.form (form.When a tag x) [] (inside a) (by_view e.form _ _ o (form.rolls-When a tag x)) (called-When a tag x) (below-When a tag x) none (sound_calls a d us s)
    sound_calls e c ts (is_merge {x = x} {d = d} {bs = bs} {tss = tss} o v h g s a f) =
        of_below e.form (form.Merge x bs) [] (flat_map (λ b. inside b.value) bs) (by_view e.form _ _ o (form.rolls-Merge x bs)) (called-Merge x bs) (below-Merge x bs) none (branch_calls x d.ty c bs tss s)
    sound_calls e c ts (is_call {f = f} {args = args} {g = g} {tss = tss} o n s t l m) =
        of_below e.form (form.Call f args) (f ∷ []) (flat_map inside args) (by_view e.form _ _ o (form.rolls-Call f args)) (called-Call f args) (below-Call f args) (All-cons P f [] (g, n, l) none) (argument_calls args c tss s)
    sound_calls e c ts (is_async_call {q = q} {f = f} {args = args} {g = g} {tss = tss} o n s t l m) =
        of_below e.form (form.AsyncCall q f args) (f ∷ []) (flat_map inside args) (by_view e.form _ _ o (form.rolls-AsyncCall q f args)) (called-AsyncCall q f args) (below-AsyncCall q f args)
        (All-cons P f [] (g, n, l) none) (argument_calls args c tss s)
    sound_calls e c ts (is_get {a = a} {us = us} o s f) =
        of_below e.form (form.Get a) [] (inside a) (by_view e.form _ _ o (form.rolls-Get a)) (called-Get a) (below-Get a) none (sound_calls a c us s)

    argument_calls : (es : List Expr) (c : Clock) (tss : List (List Ty)) → SoundArguments k site es c tss → All P (flat_map calls_at (flat_map inside es))
    argument_calls es c tss no_arguments = none
    argument_calls es c tss (an_argument {e = e} {es = rest} {ts = ts} {tss = more} s g r) = two (inside e) (flat_map inside rest) (sound_calls e c ts s) (argument_calls rest c more r)

    branch_calls : (x : Name) (t : Ty) (c : Clock) (bs : List MergeBranch) (tss : List (List Ty)) → SoundBranches k site x t c bs tss → All P (flat_map calls_at (flat_map (λ b. inside b.value) bs))
    branch_calls x t c bs tss no_branches = none
    branch_calls x t c bs tss (a_branch {b = b} {bs = rest} {ts = ts} {tss = more} g s d r) =
        two (inside b.value) (flat_map (λ b. inside b.value) rest) (sound_calls b.value (c ++ record { tag = b.tag; name = x } ∷ []) ts s) (branch_calls x t c rest more r)

  part_calls : (q : Part) → SoundPart k site q → All P (flat_map calls_at (flat_map inside (expressions_of q)))
  part_calls (Block ds equations) h = none
  part_calls (Plain p left right) h = two (inside right) [] (sound_calls right h.0 h.1 h.2) none
  part_calls (Switch p on cases) h = two (inside on) [] (sound_calls on [] (h.type ∷ []) h.sound) none
  part_calls (Reset p every sets) h = two (inside every) [] (sound_calls every [] _ h.0.sound) none
  part_calls (Automaton p cases) h = none
  part_calls (Transition strong states t) h = two (inside t.condition) [] (sound_calls t.condition [] _ h.0.sound) none

-- each call of a node's text
all_flat : {X Y : Type 0} (P : Name → Type 0) (g : Y → List Name) (f : X → List Y) (xs : List X) → All (λ x. All P (flat_map g (f x))) xs → All P (flat_map g (flat_map f xs))
all_flat P g f [] h = All-nil P
all_flat {X} P g f (x ∷ xs) h =
    subst (All P) (sym (flat_map-append g (f x) (flat_map f xs)))
    (All-append P (flat_map g (f x)) (flat_map g (flat_map f xs)) (All-head (λ (x : X). All P (flat_map g (f x))) x xs h) (all_flat P g f xs (All-tail (λ (x : X). All P (flat_map g (f x))) x xs h)))

node_calls : (k : Within) → SoundNode k → All (LeadsNotBack k) (calls_of (Some k.node))
node_calls k h =
    all_flat (LeadsNotBack k) calls_at (λ (q : Placed). flat_map inside (expressions_of q.part)) (parts k.node)
    (All-weaker (Contains (parts k.node)) (λ (q : Placed). All (LeadsNotBack k) (flat_map calls_at (flat_map inside (expressions_of q.part)))) (λ q at. part_calls k q.site q.part (h.sound_parts q at)) (parts k.node)
    (All-contains_itself (parts k.node)))

-- ---- nodes by their names

place_by : (b : Bool) (n m : Node) (ns : List Node) (rest : Option Node) → (rest ≡ Some m → (i : ℕ) × (slice_get ns i ≡ Some m)) → (if b then Some n else rest) ≡ Some m → (i : ℕ) × (slice_get (n ∷ ns) i ≡ Some m)
place_by true n m ns rest later e = (zero, e)
place_by false n m ns rest later e = let r = later e in (suc r.0, r.1)

place_of : (nodes : List Node) (f : Name) (n : Node) → node_named nodes f ≡ Some n → (i : ℕ) × (slice_get nodes i ≡ Some n)
place_of [] f n e = cc
place_of (m ∷ ms) f n e = place_by (same f m.name) m n ms (node_named ms f) (place_of ms f n) e

name_listed : (nodes : List Node) (i : ℕ) (n : Node) → slice_get nodes i ≡ Some n → is_in n.name (map (λ m. m.name) nodes) ≡ true
name_listed [] i n e = cc
name_listed (m ∷ ms) zero n e = ap (λ b. b || is_in n.name (map (λ (m : Node). m.name) ms)) (subst (λ (x : Node). same x.name m.name ≡ true) some_is (same_self m.name))
  where
    some_is : m ≡ n
    some_is = cc
name_listed (m ∷ ms) (suc i) n e = later (same n.name m.name) (name_listed ms i n e)
  where
    later : (b : Bool) {c : Bool} → c ≡ true → b || c ≡ true
    later true h = refl
    later false h = h

named_itself : (nodes : List Node) → NamesDiffer (map (λ m. m.name) nodes) → (i : ℕ) (n : Node) → slice_get nodes i ≡ Some n → node_named nodes n.name ≡ Some n
named_itself [] differ i n e = cc
named_itself (m ∷ ms) differ zero n e = ap (λ b. if b then Some m else node_named ms n.name) (subst (λ (x : Node). same x.name m.name ≡ true) some_is (same_self m.name)) ∙ e
  where
    some_is : m ≡ n
    some_is = cc
named_itself (m ∷ ms) differ (suc i) n e = ap (λ b. if b then Some m else node_named ms n.name) (unequal (same n.name m.name) refl) ∙ named_itself ms differ.1 i n e
  where
    unequal : (b : Bool) → same n.name m.name ≡ b → b ≡ false
    unequal true s = absurd (false≢true (sym differ.0 ∙ subst (λ (x : Name). is_in x (map (λ (m : Node). m.name) ms) ≡ true) (same_is n.name m.name s) (name_listed ms i n e)))
    unequal false s = refl

pub node_of_name : (r : Run) → IsSoundRun r → NodeOfName r
node_of_name r h n node e = named_itself r.program.program.nodes h.sound.nodes n node e

-- ---- calls end

-- a node that a node calls leads to it by no calls
not_back : (c : ClockedProgram) → SoundProgram c → (f g : Name) → CallsNode c.program.nodes f g → calls_lead c.program.nodes g f ≡ false
not_back c h f g calls = go (node_named c.program.nodes f) refl calls
  where
    go : (o : Option Node) → node_named c.program.nodes f ≡ o → is_in g (calls_of o) ≡ true → calls_lead c.program.nodes g f ≡ false
    go None is e = absurd (false≢true e)
    go (Some n) is e =
        let (i, at) = place_of c.program.nodes f n is in
        let (grades, sound) = h.sound_nodes i n at in
        let (m, named, free) = All-contains (LeadsNotBack (within c i n grades)) (calls_of (Some n)) g (node_calls (within c i n grades) sound) (among g (calls_of (Some n)) e) in
        let (t, f_is) = named_node c.program.nodes f n (λ (x : Node). Unit {0}) (λ j d lt. tt) is in
        let (u, g_is) = named_node c.program.nodes g m (λ (x : Node). Unit {0}) (λ j d lt. tt) named in
        subst (λ (x : Name). calls_lead c.program.nodes g x ≡ false) (sym f_is) (subst (λ (x : Name). calls_lead c.program.nodes x n.name ≡ false) (sym g_is) free)

-- fewer calls lead no further
any_more : (p q : Name → Bool) → ((x : Name) → p x ≡ true → q x ≡ true) → (xs : List Name) → list_any p xs ≡ true → list_any q xs ≡ true
any_more p q h [] e = e
any_more p q h (x ∷ xs) e = go (p x) refl e (any_more p q h xs)
  where
    first : (b : Bool) (c : Bool) → b ≡ true → b || c ≡ true
    first true c e = refl
    first false c e = absurd (false≢true e)

    second : (b c : Bool) → c ≡ true → b || c ≡ true
    second true c e = refl
    second false c e = e

    go : (b : Bool) → p x ≡ b → b || list_any p xs ≡ true → (list_any p xs ≡ true → list_any q xs ≡ true) → q x || list_any q xs ≡ true
    go true s e later = first (q x) (list_any q xs) (h x s)
    go false s e later = second (q x) (list_any q xs) (later e)

or_more : (b c d : Bool) → (c ≡ true → d ≡ true) → b || c ≡ true → b || d ≡ true
or_more true c d h e = refl
or_more false c d h e = h e

lead_more : (nodes : List Node) (k m : ℕ) → k ≤ m → (f g : Name) → lead nodes k f g ≡ true → lead nodes m f g ≡ true
lead_more nodes zero zero le f g e = e
lead_more nodes zero (suc m) le f g e = ap (λ b. b || list_any (λ h. lead nodes m h g) (calls_of (node_named nodes f))) e
lead_more nodes (suc k) zero le f g e = absurd (omega arith)
lead_more nodes (suc k) (suc m) le f g e =
    or_more (same f g) (list_any (λ h. lead nodes k h g) (calls_of (node_named nodes f))) (list_any (λ h. lead nodes m h g) (calls_of (node_named nodes f)))
    (λ a. any_more (λ h. lead nodes k h g) (λ h. lead nodes m h g) (λ x t. lead_more nodes k m (omega arith) x g t) (calls_of (node_named nodes f)) a) e

-- one that is in the list passes
passes_in : (p : Name → Bool) (x : Name) (xs : List Name) → is_in x xs ≡ true → p x ≡ true → list_any p xs ≡ true
passes_in p x [] e h = e
passes_in p x (y ∷ ys) e h = go (same x y) refl e (λ (i : is_in x ys ≡ true). passes_in p x ys i h)
  where
    second : (b c : Bool) → c ≡ true → b || c ≡ true
    second true c e = refl
    second false c e = e

    go : (b : Bool) → same x y ≡ b → b || is_in x ys ≡ true → (is_in x ys ≡ true → list_any p ys ≡ true) → p y || list_any p ys ≡ true
    go true s e later = ap (λ b. b || list_any p ys) (subst (λ (z : Name). p z ≡ true) (same_is x y s) h)
    go false s e later = second (p y) (list_any p ys) (later e)

module _ (c : ClockedProgram) (h : SoundProgram c) where
  abbrev nodes : List Node
  nodes = c.program.nodes

  -- z leads to x by at most k calls, and the path leads to z
  comes_back : (x z : Name) (path : List Name) (k : ℕ) → lead nodes k z x ≡ true → k + length path ≤ length nodes → Chain (CallsNode nodes) z path → is_in x path ≡ true → ⊥
  comes_back x z [] k led few chain e = false≢true e
  comes_back x z (p ∷ ps) k led few chain e = go (same x p) refl e (λ (i : is_in x ps ≡ true). comes_back x p ps (suc k) further (omega arith) chain.1 i)
    where
      second : (b d : Bool) → d ≡ true → b || d ≡ true
      second true d e = refl
      second false d e = e

      further : lead nodes (suc k) p x ≡ true
      further = second (same p x) _ (passes_in (λ h. lead nodes k h x) z (calls_of (node_named nodes p)) chain.0 led)

      short : k ≤ length nodes
      short = omega (arith, few)

      go : (b : Bool) → same x p ≡ b → b || is_in x ps ≡ true → (is_in x ps ≡ true → ⊥) → ⊥
      go true s e later = false≢true (sym (not_back c h x z (subst (λ (v : Name). CallsNode nodes v z) (sym (same_is x p s)) chain.0)) ∙ lead_more nodes k (length nodes) short z x led)
      go false s e later = later e

  called_among : (f g : Name) → CallsNode nodes f g → is_in f (map (λ n. n.name) nodes) ≡ true
  called_among f g calls = go (node_named nodes f) refl calls
    where
      go : (o : Option Node) → node_named nodes f ≡ o → is_in g (calls_of o) ≡ true → is_in f (map (λ (n : Node). n.name) nodes) ≡ true
      go None is e = absurd (false≢true e)
      go (Some n) is e =
          let (i, at) = place_of nodes f n is in
          let (t, f_is) = named_node nodes f n (λ (x : Node). Unit {0}) (λ j d lt. tt) is in
          subst (λ (x : Name). is_in x (map (λ (n : Node). n.name) nodes) ≡ true) (sym f_is) (name_listed nodes i n at)

  few_calls : (path : List Name) → length path ≤ length (map (λ (n : Node). n.name) nodes) → 0 + length path ≤ length nodes
  few_calls path few = let k = subst (λ m. length path ≤ m) (length-map nodes (λ (n : Node). n.name)) few in omega arith

  program_calls_end : (f : Name) → Accessible (CallsNode nodes) f
  program_calls_end f = all_end (CallsNode nodes) (map (λ (n : Node). n.name) nodes) (record {
    among = called_among;
    no_return = λ x path few chain e. comes_back x x path zero (same_self x) (few_calls path few) chain e;
  }) f

pub calls_end : (r : Run) → IsSoundRun r → CallsEnd r
calls_end r h f = program_calls_end r.program h.sound f
