-- What is known of a sound run fits.
use Rattle.std.proofs.Common.{◌≡◌, ◌≢◌, ℕ, ◌<◌, Bool, true, false, List, length, sym, ◌∙◌}
use Rattle.hept_ast.specs.Initial.{grade}
use Rattle.hept_ast.specs.Scopes.{Clock, Scope}
use Rattle.hept_ast.specs.Meaning.{Question, Gives, Output, Variable, Last, Defined, Defines, Present, Active, Restarted, Active_state, Left_state, Answer, Unknown, Absent, Nil, Is, State_at, Rule, rule}
use Rattle.hept_ast.specs.Outputs.{Follows, said, read, asked}
use Rattle.hept_ast.proofs.Depths.{to_rule, induction}
use Rattle.hept_ast.specs.declared.tree.State.{State}
use Rattle.hept_ast.specs.declared.tree.Ty.{Ty}
use Rattle.accepted_meaning.specs.Running.{Run, setting_of, types_in, IsKnown, IsDataOf, no_data, nil_data, value_data, ExpressionsFit, VariablesFit, StatesFit, AbsentIsNotPresent, DefinedIsNotNil}
use Rattle.accepted_meaning.proofs.FitsWords.{ends}
use Rattle.accepted_meaning.proofs.FitsTruths.{Known}
use Rattle.accepted_meaning.proofs.FitsKept.{Texts, Okay, gone, missing, given, IsGiven, StateOkay, state_given, Fits, Holds}
use Rattle.accepted_meaning.proofs.FitsForms.{form_ends}
use Rattle.accepted_meaning.proofs.FitsCalls.{output_ends, present_ends}
use Rattle.accepted_meaning.proofs.FitsScopes.{variable_ends, last_ends}
use Rattle.accepted_meaning.proofs.FitsStates.{defined_by, active_state_ends, left_state_ends}

-- each rule keeps what fits
step : (r : Run) → Texts r → (q : Question) (a : Answer) → Follows (Holds r) r.rows (rule (setting_of r) q) a → a ≢ Unknown → Fits r q a
step r texts (Gives e c s t) a f known = λ k u stands sound. ends (Holds r) r.rows (Okay r (grade k.grade e.form) u c s t) (rule (setting_of r) (Gives e c s t)) a
    (present_ends r (Okay r (grade k.grade e.form) u c s t) c s t _ (λ here. form_ends r texts k s e c t u stands sound here) (λ off. gone off)) f known
step r texts (Output e j c s t) a f known = λ k ts u stands sound at. ends (Holds r) r.rows (Okay r false u c s t) (rule (setting_of r) (Output e j c s t)) a
    (present_ends r (Okay r false u c s t) c s t _ (λ here. output_ends r texts k s e j c t ts u stands sound at here) (λ off. gone off)) f known
step r texts (Variable x s t) a f known = λ k d c stands sees. ends (Holds r) r.rows (Okay r (k.grade x) d.ty c s t) (rule (setting_of r) (Variable x s t)) a (variable_ends r texts k x d c s t stands sees) f known
step r texts (Last x s t) a f known = λ k d c stands sees init. ends (Holds r) r.rows (IsGiven r d.ty) (rule (setting_of r) (Last x s t)) a (last_ends r texts k x d c s t stands sees init) f known
step r texts (Defined x s t) a f known = λ k d c stands sees. ends (Holds r) r.rows (Okay r (k.grade x) d.ty c s t) (rule (setting_of r) (Defined x s t)) a (defined_by r texts k s x d c t stands sees) f known
step r texts (Defines x e) a f known = tt
step r texts (Present c s t) a f known = tt
step r texts (Active s t) a f known = tt
step r texts (Restarted s t) a f known = tt
step r texts (Active_state s states t) a f known = λ k e p stands inside is. ends (Holds r) r.rows (StateOkay r s states t) (rule (setting_of r) (Active_state s states t)) a
    (active_state_ends r texts k s e p states t (record { stands = stands; in_block = inside }) is) f known
step r texts (Left_state s states t) a f known = λ k e p stands inside is. ends (Holds r) r.rows (StateOkay r s states t) (rule (setting_of r) (Left_state s states t)) a
    (left_state_ends r texts k s e p states t (record { stands = stands; in_block = inside }) is) f known

follow_known : (r : Run) (d : Rule) (a : Answer) → Follows (Holds r) r.rows d a → Follows (Known r) r.rows d a
follow_known r d a said = said
follow_known r d a (read e) = read e
follow_known r d a (asked {go = go} {a = x} h f) = asked h.known (follow_known r (go x) a f)

-- what is known is kept
pub holds : (r : Run) → Texts r → (q : Question) (a : Answer) → IsKnown r q a → Holds r q a
holds r texts q a h = induction (Holds r) (setting_of r) r.rows
    (λ p b f known. record { known = to_rule (setting_of r) r.rows p b (follow_known r (rule (setting_of r) p) b f) known; fits = step r texts p b f known }) q a h

data_of : (r : Run) (g : Bool) (u : Ty) (c : Clock) (s : Scope) (t : ℕ) (a : Answer) → Okay r g u c s t a → IsDataOf (types_in r) u a
data_of r g u c s t a (gone h) = no_data
data_of r g u c s t a (missing e n) = nil_data
data_of r g u c s t a (given f) = value_data f

absent_of : (r : Run) (g : Bool) (u : Ty) (c : Clock) (s : Scope) (t : ℕ) → Okay r g u c s t Absent → IsKnown r (Present c s t) (Is false)
absent_of r g u c s t (gone h) = h

nil_of : (r : Run) (g : Bool) (u : Ty) (c : Clock) (s : Scope) (t : ℕ) → Okay r g u c s t Nil → g ≡ true
nil_of r g u c s t (missing e n) = e

state_of : (r : Run) (s : Scope) (states : List State) (t j : ℕ) (mark : Bool) → StateOkay r s states t (State_at j mark) → 0 < length states → j < length states
state_of r s states t j mark (state_given less) some = less some

pub known_fits : (r : Run) → Texts r → ExpressionsFit r × VariablesFit r × StatesFit r × AbsentIsNotPresent r × DefinedIsNotNil r
known_fits r texts = (
  λ k s e c u t a stands sound h. data_of r (grade k.grade e.form) u c s t a ((holds r texts (Gives e c s t) a h).fits k u stands sound),
  λ k s x d c t a stands sees h. data_of r (k.grade x) d.ty c s t a ((holds r texts (Variable x s t) a h).fits k d c stands sees),
  λ k s e p states t j mark stands inside is some h. state_of r s states t j mark ((holds r texts (Active_state s states t) (State_at j mark) h).fits k e p stands inside is) some,
  λ k s x d c t stands sees h. absent_of r (k.grade x) d.ty c s t ((holds r texts (Variable x s t) Absent h).fits k d c stands sees),
  λ k s x d c t stands sees defined h. let e : true ≡ false = sym (nil_of r (k.grade x) d.ty c s t ((holds r texts (Variable x s t) Nil h).fits k d c stands sees)) ∙ defined in cc,
)
