-- What is known at an instant in a scope, and at all instants before it.
use Rattle.std.proofs.Common.{append_assoc, append-nil, ◌≡◌, ◌⊎◌, inl, inr, ℕ, ◌+◌, ◌-◌, ◌<◌, ◌≤◌, Bool, true, false, List, [], ◌∷◌, ◌++◌, take, Option, Some, None, length, refl, sym, ap, subst, arith, ◌∙◌}
use Rattle.std.specs.Prelude.{if◌then◌else◌, Contains, slice_get, ⊤, is_some}
use Rattle.std.proofs.Math.Seq.{take-append_seam}
use Rattle.std.proofs.lemmas.List.{length_push}
use Rattle.hept_ast.specs.Texts.{Name, is_in, tag_value}
use Rattle.hept_ast.specs.Scopes.{Clock, Text, Scope, Top, Called, In_branch, In_body, In_state, Under, declares, home, inputs_of, text_of}
use Rattle.hept_ast.specs.Meaning.{is_true, Question, Gives, Variable, Present, Active, Restarted, Left_state, Answer, Value, Is, Says, steps_hold, own_rule, constant_of}
use Rattle.hept_ast.specs.declared.tree.ClockStep.{ClockStep}
use Rattle.hept_ast.specs.declared.tree.Decl.{Decl}
use Rattle.hept_ast.specs.declared.tree.Init.{Init}
use Rattle.hept_ast.specs.declared.tree.Expr.{Expr}
use Rattle.hept_ast.specs.declared.tree.Block.{Block}
use Rattle.hept_ast.specs.declared.tree.Branch.{Branch}
use Rattle.hept_ast.specs.declared.tree.State.{State}
use Rattle.hept_ast.specs.declared.tree.Equation.{Equation, out-Equation}
use Rattle.hept_ast.specs.declared.tree.Equation.TheOpen.{Equation-F}
use Rattle.hept_ast.specs.declared.name.Place.{Place}
use Rattle.hept_ast.specs.declared.tree.Ty.{Ty}
use Rattle.sound_expressions.specs.Sound.{Within, Sees, Sound}
use Rattle.accepted_meaning.specs.Placing.{at_state, at_reset, at_branch, site_of}
use Rattle.accepted_meaning.specs.Running.{IsSoundRun, IsPlacedIn, Run, StandsIn, IsKnown, IsDataOf, no_data, nil_data, value_data, ExpressionsFit, VariablesFit, StatesFit, setting_of, types_in}
use Rattle.accepted_meaning.specs.Structure.{IsEquationOf, BlockOfScope, SoundDefine, SoundSwitchOf, SoundResetOf, SoundAutomatonOf, SoundWeakOf, SoundStrongOf, BranchOutside, BodyOutside, StateOutside, ClockOfSeen, ClockInText, ClockHere, SeenFromHome, HomeOf, SourceOf, RuleOfDefined, DefinesIs, NotLocalInBranch, NotLocalInBody, NotLocalInState, SeesInBranch, SeesInBody, SeesInState, ReadsRight, ReadsOn, ReadsEvery, ReadsStrong, ReadsAround, ReadsClock, ReadsEnd, CallsNode, CallsEnd, CallOf, AsyncCallOf, ArgumentOf, InputOf, OutputOf, BranchOfValue, MergeOfValue, InputAt}
use Rattle.accepted_meaning.specs.Asked.{IsReached, AreReached, IsScoped, IsAsked}
use Rattle.accepted_meaning.proofs.KnownRules.{asks, Known, Ends, IsDatum, absent, undefined, a_value, known_by, says, chosen, with_value}
use Rattle.accepted_meaning.proofs.KnownTrees.{IsSingle}

-- what is taken of texts and scopes
pub record Texts (r : Run) : Type 0 where
  pub sound : IsSoundRun r
  pub seen_from_home : SeenFromHome r
  pub block_of_scope : BlockOfScope r
  pub sound_define : SoundDefine r
  pub sound_switch : SoundSwitchOf r
  pub sound_reset : SoundResetOf r
  pub sound_automaton : SoundAutomatonOf r
  pub sound_weak : SoundWeakOf r
  pub sound_strong : SoundStrongOf r
  pub branch_outside : BranchOutside r
  pub body_outside : BodyOutside r
  pub state_outside : StateOutside r
  pub clock_of_seen : ClockOfSeen
  pub clock_in_text : ClockInText r
  pub clock_here : ClockHere r
  pub home_of : HomeOf r
  pub source_of : SourceOf r
  pub rule_of_defined : RuleOfDefined r
  pub defines_is : DefinesIs r
  pub not_local_in_branch : NotLocalInBranch r
  pub not_local_in_body : NotLocalInBody r
  pub not_local_in_state : NotLocalInState r
  pub sees_in_branch : SeesInBranch r
  pub sees_in_body : SeesInBody r
  pub sees_in_state : SeesInState r
  pub reads_right : ReadsRight r
  pub reads_on : ReadsOn r
  pub reads_every : ReadsEvery r
  pub reads_strong : ReadsStrong r
  pub reads_around : ReadsAround r
  pub reads_clock : ReadsClock
  pub reads_end : ReadsEnd r
  pub calls_end : CallsEnd r
  pub call_of : CallOf r
  pub async_call_of : AsyncCallOf r
  pub argument_of : ArgumentOf r
  pub input_of : InputOf r
  pub output_of : OutputOf r
  pub branch_of_value : BranchOfValue r.program
  pub merge_of_value : MergeOfValue r.program
  pub input_at : InputAt

-- what is taken of what is known
pub record Fits (r : Run) : Type 0 where
  pub expressions : ExpressionsFit r
  pub variables : VariablesFit r
  pub states : StatesFit r

-- the scopes from one out to the body of a node
pub data IsAround : Scope → Scope → Type 0 where
  itself : {s : Scope} → IsAround s s
  around_branch : {h s : Scope} {on : Expr} {b : Branch} → IsAround h s → IsAround h (In_branch s on b)
  around_body : {h s : Scope} {every : Expr} {block : Block} → IsAround h s → IsAround h (In_body s every block)
  around_state : {h s : Scope} {states : List State} {j : ℕ} → IsAround h s → IsAround h (In_state s states j)
  around_right : {h s : Scope} {resets : List Name} → IsAround h s → IsAround h (Under s resets)

either_home : (b : Bool) (s h : Scope) → IsAround h s → IsAround (if b then s else h) s
either_home true s h i = itself
either_home false s h i = i

pub home_around : (x : Name) (s : Scope) → IsAround (home x s) s
home_around x (Top text) = itself
home_around x (Called s clock p args text) = itself
home_around x (In_branch s on b) = either_home (declares (In_branch s on b) x) (In_branch s on b) (home x s) (around_branch (home_around x s))
home_around x (In_body s every block) = either_home (declares (In_body s every block) x) (In_body s every block) (home x s) (around_body (home_around x s))
home_around x (In_state s states j) = either_home (declares (In_state s states j) x) (In_state s states j) (home x s) (around_state (home_around x s))
home_around x (Under s resets) = around_right (home_around x s)

pub asked_around : (r : Run) (h s : Scope) → IsAround h s → IsAsked r s → IsAsked r h
asked_around r h s itself a = a
asked_around r h (In_branch s on b) (around_branch i) a = asked_around r h s i a
asked_around r h (In_body s every block) (around_body i) a = asked_around r h s i a
asked_around r h (In_state s states j) (around_state i) a = asked_around r h s i a
asked_around r h (Under s resets) (around_right i) a = absurd a

pub around_trans : (g h s : Scope) → IsAround g h → IsAround h s → IsAround g s
around_trans g h s i itself = i
around_trans g h (In_branch s on b) i (around_branch j) = around_branch (around_trans g h s i j)
around_trans g h (In_body s every block) i (around_body j) = around_body (around_trans g h s i j)
around_trans g h (In_state s states j) i (around_state k) = around_state (around_trans g h s i k)
around_trans g h (Under s resets) i (around_right j) = around_right (around_trans g h s i j)

-- the body of a node
pub data IsFrame : Scope → Type 0 where
  a_top : {text : Text} → IsFrame (Top text)
  a_call : {s : Scope} {clock : Clock} {place : ℕ} {args : List Expr} {text : Text} → IsFrame (Called s clock place args text)

-- all that is asked at an instant
pub record Everything (r : Run) (t : ℕ) : Type 0 where
  pub variables : (k : Within) (s : Scope) (x : Name) (d : Decl) (c : Clock) → StandsIn r k s → IsAsked r s → Sees k (site_of s) x d c → IsScoped r k s c → Known r (Variable x s t)
  pub active : (k : Within) (s : Scope) → StandsIn r k s → IsAsked r s → Known r (Active s t)
  pub restarted : (k : Within) (s : Scope) → StandsIn r k s → IsAsked r s → Known r (Restarted s t)
  pub left : (k : Within) (s : Scope) (e : Equation) (p : Place) (states : List State) → IsEquationOf r k s e → IsAsked r s → out-Equation e ≡ Equation-F.Automaton p states → Known r (Left_state s states t)
  pub gives : (k : Within) (s : Scope) (e : Expr) (c : Clock) (ts : List Ty) → StandsIn r k s → IsAsked r s → Sound k (site_of s) e c ts → IsScoped r k s c → IsSingle ts → Known r (Gives e c s t)

-- the variables of a called node are known once its activity, restart and inputs are
abbrev pub FrameKnown : Run → Within → ℕ → Type 0
FrameKnown r k t =
    (f : Scope) → IsFrame f → StandsIn r k f → IsAsked r f → Known r (Active f t) → Known r (Restarted f t) →
    ((x : Name) (d : Decl) (c : Clock) → is_in x (inputs_of (text_of f)) ≡ true → Sees k [] x d c → Ends r (own_rule (setting_of r) f x t)) →
    (s : Scope) (x : Name) (d : Decl) (c : Clock) → IsAround f s → StandsIn r k s → Sees k (site_of s) x d c → IsScoped r k s c → Known r (Variable x s t)

-- a scope is known to be active
pub record IsOn (r : Run) (s : Scope) (t : ℕ) : Type 0 where
  pub answer : Answer
  pub known : IsKnown r (Active s t) answer
  pub true_is : is_true answer ≡ true

-- what is known at an instant in a scope where variables with some names are known
pub record Here (r : Run) (k : Within) (s : Scope) (t : ℕ) (Q : Name → Type 0) : Type 0 where
  pub stands : StandsIn r k s
  pub asked : IsAsked r s
  pub before : (p : ℕ) → p < t → Everything r p
  pub active : Known r (Active s t)
  pub restarts : (h : Scope) → IsAround h s → Known r (Restarted h t)
  pub variables : (x : Name) (d : Decl) (c : Clock) → Q x → Sees k (site_of s) x d c → IsScoped r k s c → Known r (Variable x s t)
  pub reached : (x : Name) (c : Clock) → Q x → IsReached r k s x c → IsScoped r k s c → IsOn r s t → Known r (Variable x s t)
  pub called : (callee : Within) → CallsNode r.program.program.nodes k.node.name callee.node.name → FrameKnown r callee t

-- ---- clocks

abbrev pub StepsKnown : Run → Clock → Scope → ℕ → Type 0
StepsKnown r [] s t = ⊤
StepsKnown r (step ∷ steps) s t = Known r (Variable step.name s t) × StepsKnown r steps s t

pub record IsReady (r : Run) (k : Within) (s : Scope) (t : ℕ) (c : Clock) : Type 0 where
  pub scoped : IsScoped r k s c
  pub steps : IsOn r s t → StepsKnown r c s t

steps_end : (r : Run) (c : Clock) (s : Scope) (t : ℕ) → StepsKnown r c s t → Ends r (steps_hold (setting_of r) c s t)
steps_end r [] s t h = says r (Is true) tt
steps_end r (step ∷ steps) s t h =
    with_value r (Variable step.name s t) (tag_value (setting_of r).types step.tag) _ h.0
    (λ b. chosen r b (steps_hold (setting_of r) steps s t) (Says (Is false)) (steps_end r steps s t h.1) (says r (Is false) tt))

pub present_known : (r : Run) (c : Clock) (s : Scope) (t : ℕ) → Known r (Active s t) → (IsOn r s t → StepsKnown r c s t) → Known r (Present c s t)
present_known r c s t h k = known_by r (Present c s t) (asks r (Active s t) _ h (λ a g. choose a g (is_true a) refl))
  where
    choose : (a : Answer) → IsKnown r (Active s t) a → (b : Bool) → is_true a ≡ b → Ends r (if b then steps_hold (setting_of r) c s t else Says (Is false))
    choose a g true e = steps_end r c s t (k (record { answer = a; known = g; true_is = e }))
    choose a g false e = says r (Is false) tt

reached_first : (r : Run) (k : Within) (s : Scope) (before c d : Clock) → AreReached r k s before (c ++ d) → AreReached r k s before c
reached_first r k s before [] d h = tt
reached_first r k s before (step ∷ c) d h = (h.0, reached_first r k s (before ++ step ∷ []) c d h.1)

pub scoped_first : (r : Run) (k : Within) (s : Scope) (c d : Clock) → IsScoped r k s (c ++ d) → IsScoped r k s c
scoped_first r k s c d h = reached_first r k s [] c d h

reached_step : (r : Run) (k : Within) (s : Scope) (before c : Clock) (step : ClockStep) → AreReached r k s before c → IsReached r k s step.name (before ++ c) → AreReached r k s before (c ++ step ∷ [])
reached_step r k s before [] step h i = (subst (λ (z : Clock). IsReached r k s step.name z) (append-nil before) i, tt)
reached_step r k s before (first ∷ c) step h i =
    (h.0, reached_step r k s (before ++ first ∷ []) c step h.1 (subst (λ (z : Clock). IsReached r k s step.name z) (sym (append_assoc before (first ∷ []) c)) i))

pub scoped_step : (r : Run) (k : Within) (s : Scope) (c : Clock) (step : ClockStep) → IsScoped r k s c → IsReached r k s step.name c → IsScoped r k s (c ++ step ∷ [])
scoped_step r k s c step h i = reached_step r k s [] c step h i

pub steps_first : (r : Run) (c d : Clock) (s : Scope) (t : ℕ) → StepsKnown r (c ++ d) s t → StepsKnown r c s t
steps_first r [] d s t h = tt
steps_first r (step ∷ c) d s t h = (h.0, steps_first r c d s t h.1)

pub steps_more : (r : Run) (c d : Clock) (s : Scope) (t : ℕ) → StepsKnown r c s t → StepsKnown r d s t → StepsKnown r (c ++ d) s t
steps_more r [] d s t h i = i
steps_more r (step ∷ c) d s t h i = (h.0, steps_more r c d s t h.1 i)

one_less : (c : Clock) (x : ClockStep) → length (c ++ x ∷ []) - 1 ≡ length c
one_less c x = let e : length (c ++ x ∷ []) ≡ length c + 1 = length_push c x in omega arith

pub take_last : (c : Clock) (x : ClockStep) → take (length (c ++ x ∷ []) - 1) (c ++ x ∷ []) ≡ c
take_last c x = ap (λ (n : ℕ). take n (c ++ x ∷ [])) (one_less c x) ∙ take-append_seam c (x ∷ [])

-- ---- at instants up to this one

now_or_before : (p t : ℕ) → p ≤ t → (p < t) ⊎ (p ≡ t)
now_or_before p t h = grind arith

up_to : (r : Run) (q : ℕ → Question) (t : ℕ) → ((p : ℕ) → p < t → Known r (q p)) → Known r (q t) → (p : ℕ) → (p < t) ⊎ (p ≡ t) → Known r (q p)
up_to r q t h k p (inl l) = h p l
up_to r q t h k p (inr e) = subst (λ (x : ℕ). Known r (q x)) (sym e) k

-- a scope around this one
pub restarts_up_to : {r : Run} {k : Within} {s : Scope} {t : ℕ} {Q : Name → Type 0} → Here r k s t Q → (h : Scope) → IsAround h s → StandsIn r k h → (p : ℕ) → p ≤ t → Known r (Restarted h p)
restarts_up_to {r} {k} {s} {t} here h i stands p l =
    up_to r (λ p. Restarted h p) t (λ q m. (here.before q m).restarted k h stands (asked_around r h s i here.asked)) (here.restarts h i) p (now_or_before p t l)

-- ---- what fits is a datum

pub datum_of : (r : Run) (ty : Ty) (a : Answer) → IsDataOf (types_in r) ty a → IsDatum a
datum_of r ty _ no_data = absent
datum_of r ty _ nil_data = undefined
datum_of r ty _ (value_data v) = a_value

pub data_of : (r : Run) → Fits r → (k : Within) (s : Scope) (e : Expr) (c : Clock) (ts : List Ty) (t : ℕ) (a : Answer) →
    StandsIn r k s → Sound k (site_of s) e c ts → IsSingle ts → IsKnown r (Gives e c s t) a → IsDatum a
data_of r fits k s e c ts t a stands sound one h =
    datum_of r one.type a (fits.expressions k s e c one.type t a stands (subst (λ (x : List Ty). Sound k (site_of s) e c x) one.is sound) h)

-- ---- last values

pub initial_end : (r : Run) (o : Option Init) → is_some o ≡ true → Ends r (constant_of (setting_of r) o)
initial_end r (Some i) h = says r (Value _) tt
initial_end r None h = absurd (no_truth h)
  where
    no_truth : false ≡ true → ⊥
    no_truth h = cc

-- ---- the scopes inside a block

pub stands_in_branch : {r : Run} {k : Within} {s : Scope} {e : Equation} (p : Place) (on : Expr) (bs : List Branch) (b : Branch) → IsEquationOf r k s e → out-Equation e ≡ Equation-F.Switch p on bs → Contains bs b → StandsIn r k (In_branch s on b)
stands_in_branch p on bs b h eq i = record { number = h.stands.number; of_node = h.stands.of_node; text = h.stands.text; placed = at_branch h.stands.placed h.in_block eq i }

pub stands_in_body : {r : Run} {k : Within} {s : Scope} {e : Equation} (p : Place) (block : Block) (every : Expr) → IsEquationOf r k s e → out-Equation e ≡ Equation-F.Reset p block every → StandsIn r k (In_body s every block)
stands_in_body p block every h eq = record { number = h.stands.number; of_node = h.stands.of_node; text = h.stands.text; placed = at_reset h.stands.placed h.in_block eq }

pub stands_in_state : {r : Run} {k : Within} {s : Scope} {e : Equation} (p : Place) (qs : List State) (j : ℕ) (q : State) → IsEquationOf r k s e → out-Equation e ≡ Equation-F.Automaton p qs → slice_get qs j ≡ Some q → StandsIn r k (In_state s qs j)
stands_in_state p qs j q h eq i = record { number = h.stands.number; of_node = h.stands.of_node; text = h.stands.text; placed = at_state h.stands.placed h.in_block eq i }

pub not_placed : (r : Run) (s : Scope) (resets : List Name) → IsPlacedIn r (Under s resets) → ⊥
not_placed r s resets h = elim h [ ]

-- a scope between the body of a node and one inside
pub between : (f h s : Scope) → IsFrame f → IsAround f s → IsAround h s → IsAround f h
between f h s frame i itself = i
between f h (In_branch s on b) frame itself (around_branch j) = elim frame [ ]
between f h (In_branch s on b) frame (around_branch i) (around_branch j) = between f h s frame i j
between f h (In_body s every block) frame itself (around_body j) = elim frame [ ]
between f h (In_body s every block) frame (around_body i) (around_body j) = between f h s frame i j
between f h (In_state s qs n) frame itself (around_state j) = elim frame [ ]
between f h (In_state s qs n) frame (around_state i) (around_state j) = between f h s frame i j
between f h (Under s resets) frame itself (around_right j) = elim frame [ ]
between f h (Under s resets) frame (around_right i) (around_right j) = between f h s frame i j
