-- What is kept by the rule of each question: the types of what is known, presence, and where nothing is undefined.
use Rattle.std.proofs.Common.{◌≡◌, ℕ, ◌<◌, Bool, true, false, List, [], ◌∷◌, Some, length, refl, sym, subst, ◌∙◌}
use Rattle.std.specs.Prelude.{Contains, is_some, slice_get}
use Rattle.hept_ast.specs.Texts.{Name}
use Rattle.hept_ast.specs.Scopes.{Clock, Scope, In_body, block_of}
use Rattle.hept_ast.specs.Initial.{grade}
use Rattle.hept_ast.specs.Meaning.{Question, Gives, Output, Variable, Last, Defined, Present, Active, Active_state, Left_state, Answer, Absent, Nil, Value, Is, State_at, Rule, go_on}
use Rattle.hept_ast.specs.declared.tree.Expr.{Expr}
use Rattle.hept_ast.specs.declared.tree.Block.{Block}
use Rattle.hept_ast.specs.declared.tree.Decl.{Decl}
use Rattle.hept_ast.specs.declared.tree.State.{State}
use Rattle.hept_ast.specs.declared.tree.Ty.{Ty}
use Rattle.hept_ast.specs.declared.tree.Equation.{Equation, out-Equation}
use Rattle.hept_ast.specs.declared.tree.Equation.TheOpen.{Equation-F}
use Rattle.hept_ast.specs.declared.name.Place.{Place}
use Rattle.hept_ast.specs.TypedValues.{IsValueOf}
use Rattle.sound_expressions.specs.Sound.{Within, Sees, Sound}
use Rattle.accepted_meaning.specs.Placing.{site_of}
use Rattle.accepted_meaning.specs.Running.{Run, IsSoundRun, StandsIn, types_in, IsKnown}
use Rattle.accepted_meaning.specs.Structure.{SoundDefine, SoundSwitchOf, SoundResetOf, SoundAutomatonOf, SoundWeakOf, SoundStrongOf, BlockOfScope, BranchOutside, BodyOutside, StateOutside, ClockOfSeen, ClockInText, ClockHere, SeenFromHome, HomeOf, DefinesIs, NotLocalInBranch, NotLocalInBody, NotLocalInState, SeesInBranch, SeesInBody, SeesInState, GradeOfRight, CallOf, AsyncCallOf, CallerOf, ArgumentOf, InputOf, OutputOf, ConstantFits, StateOfName, InputAt}
use Rattle.accepted_meaning.proofs.FitsWords.{Ends, says, Keeping}
use Rattle.accepted_meaning.proofs.FitsTruths.{not_both, Earlier}

-- the presence of a seen variable's clock is known in a reset body as around it
pub record Moved (r : Run) (s i : Scope) (c : Clock) (t : ℕ) : Type 0 where
  pub inward : (b : Bool) → IsKnown r (Present c s t) (Is b) → IsKnown r (Present c i t) (Is b)
  pub outward : (b : Bool) → IsKnown r (Present c i t) (Is b) → IsKnown r (Present c s t) (Is b)

abbrev pub PresentMoves : Run → Type 0
PresentMoves r = (k : Within) (s : Scope) (every : Expr) (block : Block) (x : Name) (d : Decl) (c : Clock) (t : ℕ) →
    StandsIn r k s → StandsIn r k (In_body s every block) → Sees k (site_of s) x d c → Moved r s (In_body s every block) c t

-- what is known of the texts and scopes of a run
pub record Texts (r : Run) : Type 0 where
  pub sound : IsSoundRun r
  pub moves : PresentMoves r
  pub define : SoundDefine r
  pub switch : SoundSwitchOf r
  pub reset : SoundResetOf r
  pub automaton : SoundAutomatonOf r
  pub weak : SoundWeakOf r
  pub strong : SoundStrongOf r
  pub block : BlockOfScope r
  pub branch_outside : BranchOutside r
  pub body_outside : BodyOutside r
  pub state_outside : StateOutside r
  pub clock_of_seen : ClockOfSeen
  pub clock_in_text : ClockInText r
  pub clock_here : ClockHere r
  pub seen_from_home : SeenFromHome r
  pub home_of : HomeOf r
  pub defines : DefinesIs r
  pub not_local_in_branch : NotLocalInBranch r
  pub not_local_in_body : NotLocalInBody r
  pub not_local_in_state : NotLocalInState r
  pub sees_in_branch : SeesInBranch r
  pub sees_in_body : SeesInBody r
  pub sees_in_state : SeesInState r
  pub grade_of_right : GradeOfRight r
  pub call : CallOf r
  pub async_call : AsyncCallOf r
  pub caller : CallerOf r
  pub argument : ArgumentOf r
  pub input : InputOf r
  pub output : OutputOf r
  pub constant : ConstantFits r.program
  pub state_of_name : StateOfName
  pub input_at : InputAt

-- what an expression or variable of a grade, type and clock gives at an instant: it is absent only where it is not present,
-- and undefined only if it may be, and only where the clock had no earlier instant since a restart
pub data Okay (r : Run) (g : Bool) (ty : Ty) (c : Clock) (s : Scope) (t : ℕ) : Answer → Type 0 where
  gone : IsKnown r (Present c s t) (Is false) → Okay r g ty c s t Absent
  missing : g ≡ true → (Earlier r c s t → ⊥) → Okay r g ty c s t Nil
  given : {v : ℕ} → IsValueOf (types_in r) ty v → Okay r g ty c s t (Value v)

pub record IsGiven (r : Run) (ty : Ty) (a : Answer) : Type 0 where
  pub value : ℕ
  pub is : a ≡ Value value
  pub fits : IsValueOf (types_in r) ty value

-- a state of an automaton, if it has any
pub data StateOkay (r : Run) (s : Scope) (states : List State) (t : ℕ) : Answer → Type 0 where
  state_gone : IsKnown r (Active s t) (Is false) → StateOkay r s states t Absent
  state_given : {j : ℕ} {mark : Bool} → (0 < length states → j < length states) → StateOkay r s states t (State_at j mark)

-- what is kept, question by question
abbrev pub Fits : Run → Question → Answer → Type 0
Fits r (Gives e c s t) a = (k : Within) (ty : Ty) → StandsIn r k s → Sound k (site_of s) e c (ty ∷ []) → Okay r (grade k.grade e.form) ty c s t a
Fits r (Output e j c s t) a = (k : Within) (ts : List Ty) (ty : Ty) → StandsIn r k s → Sound k (site_of s) e c ts → slice_get ts j ≡ Some ty → Okay r false ty c s t a
Fits r (Variable x s t) a = (k : Within) (d : Decl) (c : Clock) → StandsIn r k s → Sees k (site_of s) x d c → Okay r (k.grade x) d.ty c s t a
Fits r (Last x s t) a = (k : Within) (d : Decl) (c : Clock) → StandsIn r k s → Sees k (site_of s) x d c → is_some d.init ≡ true → IsGiven r d.ty a
Fits r (Defined x s t) a = (k : Within) (d : Decl) (c : Clock) → StandsIn r k s → Sees k (site_of s) x d c → Okay r (k.grade x) d.ty c s t a
Fits r (Active_state s states t) a =
    (k : Within) (e : Equation) (p : Place) → StandsIn r k s → Contains (block_of s).body e → out-Equation e ≡ Equation-F.Automaton p states → StateOkay r s states t a
Fits r (Left_state s states t) a =
    (k : Within) (e : Equation) (p : Place) → StandsIn r k s → Contains (block_of s).body e → out-Equation e ≡ Equation-F.Automaton p states → StateOkay r s states t a
Fits r _ a = Unit {0}

pub record Holds (r : Run) (q : Question) (a : Answer) : Type 0 where
  pub known : IsKnown r q a
  pub fits : Fits r q a

pub keeping : (r : Run) → Keeping r (Holds r)
keeping r = record { known = λ q a h. h.known }

-- each answer of a rule is P, where what it asks is kept
abbrev pub Ended : Run → (Answer → Type 0) → Rule → Type 0
Ended r P d = Ends (Holds r) r.rows P d

-- ---- what is okay

-- where it is present and never undefined there is a value
pub is_given : (r : Run) (g : Bool) (ty : Ty) (c : Clock) (s : Scope) (t : ℕ) (a : Answer) → Okay r g ty c s t a → g ≡ false → IsKnown r (Present c s t) (Is true) → IsGiven r ty a
is_given r g ty c s t a (gone h) e here = absurd (not_both r (Present c s t) here h)
is_given r g ty c s t a (missing i n) e here = absurd (let f : true ≡ false = sym i ∙ e in cc)
is_given r g ty c s t a (given f) e here = record { value = _; is = refl; fits = f }

pub okay_given : (r : Run) (g : Bool) (ty : Ty) (c : Clock) (s : Scope) (t : ℕ) (a : Answer) → IsGiven r ty a → Okay r g ty c s t a
okay_given r g ty c s t a h = subst (λ (x : Answer). Okay r g ty c s t x) (sym h.is) (given h.fits)

-- with another grade, type, clock, scope and instant
pub okay_map : (r : Run) (g g' : Bool) (ty ty' : Ty) (c c' : Clock) (s s' : Scope) (t t' : ℕ) (a : Answer) →
    (IsKnown r (Present c s t) (Is false) → IsKnown r (Present c' s' t') (Is false)) → (g ≡ true → g' ≡ true) → (Earlier r c' s' t' → Earlier r c s t) →
    ((v : ℕ) → IsValueOf (types_in r) ty v → IsValueOf (types_in r) ty' v) → Okay r g ty c s t a → Okay r g' ty' c' s' t' a
okay_map r g g' ty ty' c c' s s' t t' a off more less fits (gone h) = gone (off h)
okay_map r g g' ty ty' c c' s s' t t' a off more less fits (missing e n) = missing (more e) (λ e'. n (less e'))
okay_map r g g' ty ty' c c' s s' t t' a off more less fits (given f) = given (fits _ f)

pub okay_as : (r : Run) (g g' : Bool) (ty ty' : Ty) (c : Clock) (s : Scope) (t : ℕ) (a : Answer) → (g ≡ true → g' ≡ true) →
    ((v : ℕ) → IsValueOf (types_in r) ty v → IsValueOf (types_in r) ty' v) → Okay r g ty c s t a → Okay r g' ty' c s t a
okay_as r g g' ty ty' c s t a more fits h = okay_map r g g' ty ty' c c s s t t a (λ k. k) more (λ k. k) fits h

pub go_on_ends : (r : Run) (P : Answer → Type 0) (g : Bool) (ty : Ty) (c : Clock) (s : Scope) (t : ℕ) (a : Answer) (go : ℕ → Rule) → Okay r g ty c s t a →
    (IsKnown r (Present c s t) (Is false) → P Absent) → (g ≡ true → (Earlier r c s t → ⊥) → P Nil) → ((v : ℕ) → a ≡ Value v → IsValueOf (types_in r) ty v → Ended r P (go v)) →
    Ended r P (go_on a go)
go_on_ends r P g ty c s t a go (gone h) absent nil value = says (absent h)
go_on_ends r P g ty c s t a go (missing e n) absent nil value = says (nil e n)
go_on_ends r P g ty c s t a go (given f) absent nil value = value _ refl f
