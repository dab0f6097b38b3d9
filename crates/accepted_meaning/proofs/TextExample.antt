-- A program that is accepted and in range: the premises of the laws are met.
use Rattle.std.proofs.Common.{◌≡◌, ℕ, zero, suc, ◌||◌, Bool, true, false, [], ◌∷◌, ◌++◌, Some, None, map, rules, w32, refl, sym, ap, subst, ◌∙◌, arith}
use Rattle.std.specs.Prelude.{if◌then◌else◌, All, IsTrue, is_some, slice_get, codes, pos}
use Rattle.std.proofs.lemmas.List.Elements.{All-from_recursion}
use mir.Val.{SFits}
use Rattle.std.specs.Str.{bytes_eq}
use Rattle.std.specs.List.{list_any}
use Rattle.std.specs.Option.{option_map}
use Rattle.hept_ast.proofs.PlacedPrograms.{ex, var, num, decl, int, define, node, program}
use Rattle.hept_ast.proofs.Unfolded.{static}
use Rattle.hept_ast.specs.Texts.{Name, same}
use Rattle.hept_ast.specs.Scopes.{Clock}
use Rattle.hept_ast.specs.Faults.{faults}
use Rattle.hept_ast.specs.Clocks.{AreClocks, AreLeastClocks, total_length}
use Rattle.hept_ast.specs.ClockMaps.{clock_in, path_in, steps_or_none}
use Rattle.hept_ast.specs.Initial.{Grades, AreGrades, AreLeastGrades, grade, unmet_in}
use Rattle.hept_ast.specs.Causal.{HasNoCycle, Reads}
use Rattle.hept_ast.specs.Parts.{expressions, parts, variables}
use Rattle.hept_ast.specs.Stages.{ClockedProgram, HasLeastClocks, IsAcceptedProgram, declares_at}
use Rattle.hept_ast.specs.declared.clocks.NamedClock.{NamedClock}
use Rattle.hept_ast.specs.declared.tree.Node.{Node}
use Rattle.hept_ast.specs.declared.tree.Form.TheVariants as form
use Rattle.hept_ast.specs.declared.tree.Form.{out-Form}
use Rattle.hept_ast.specs.declared.tree.Form.TheOpen.{Form-F}
use Rattle.hept_ast.specs.declared.tree.Form.TheViews.{out-roll-Form}
use Rattle.hept_ast.specs.declared.tree.Const.TheVariants.{Number}
use Rattle.accepted_meaning.specs.Ranges.{FitsInit, HasLeft, IsInRange}
use Rattle.sound_expressions.specs.Demands.{FitsForm}
use Rattle.accepted_meaning.proofs.TextLists.{no_some, same_some}

abbrev x : Name
x = codes "x"

abbrev y : Name
y = codes "y"

-- node main(x:int) returns (y:int) let y = 0 fby x tel
abbrev delay : Node
delay = node 0 (codes "main") (decl 10 x int ∷ []) (decl 26 y int ∷ []) [] (define 37 y (ex 43 (form.Fby (num 41 0) (var 47 x))) ∷ [])

abbrev on_base : Name → NamedClock
on_base v = record { name = v; path = record { steps = [] } }

abbrev pub delayed : ClockedProgram
delayed = record { program = program (delay ∷ []); clocks = (on_base x ∷ on_base y ∷ []) ∷ [] }

all_one : {X : Type 0} (P : X → Type 0) (v : X) → P v → All P (v ∷ [])
all_one P v h zero d below = h
all_one P v h (suc k) d below = absurd (omega arith)

all_none : {X : Type 0} (P : X → Type 0) → All P []
all_none P k d below = absurd (omega arith)

only_node : (P : ℕ → Node → Type 0) → P 0 delay → (k : ℕ) (other : Node) → slice_get delayed.program.nodes k ≡ Some other → P k other
only_node P h zero other e = subst (P 0) (same_some e) h
only_node P h (suc k) other e = no_some e

typed : faults delayed.program ≡ []
unfolding static
typed = refl

-- ---- clocks

base_clock : (v : Name) → clock_in delayed.clocks 0 v ≡ []
base_clock v = go (same v x) (same v y)
  where
    go : (b c : Bool) → steps_or_none (option_map (λ n. n.path) (if b then Some (on_base x) else if c then Some (on_base y) else None)) ≡ []
    go true c = refl
    go false true = refl
    go false false = refl

exact_clocks : (k : ℕ) (v : Name) → is_some (path_in delayed.clocks k v) ≡ declares_at delayed.program.nodes k v
unfolding static
exact_clocks zero v = go (same v x) (same v y)
  where
    go : (b c : Bool) → is_some (option_map (λ n. n.path) (if b then Some (on_base x) else if c then Some (on_base y) else None)) ≡ (b || (c || false))
    go true c = refl
    go false true = refl
    go false false = refl
exact_clocks (suc k) v = refl

clocks_meet : AreClocks delay (clock_in delayed.clocks 0)
unfolding static
clocks_meet = ((λ n. []), (refl, (refl, (refl, (refl, (refl, tt))))))

no_length : total_length delay (clock_in delayed.clocks 0) ≡ 0
unfolding static
no_length = refl

least_clocks : HasLeastClocks delayed.program delayed.clocks
least_clocks = record {
  least = only_node (λ k other. AreLeastClocks other (clock_in delayed.clocks k)) (record { meets = clocks_meet; least = λ d m. let none = no_length in omega arith });
  exact = exact_clocks;
}

-- ---- grades

grades_meet : AreGrades delay (λ v. false)
unfolding static
grades_meet v = elim (bytes_eq v y) as (λ t. false ≡ list_any (λ e. grade (λ u. false) e.form) ((if t || false then ex 43 (form.Fby (num 41 0) (var 47 x)) ∷ [] else []) ++ [])) [ true ↦ refl | false ↦ refl ]

least_grades : AreLeastGrades delay (λ v. false)
least_grades = record { meets = grades_meet; least = λ h m v t. absurd (no_truth t) }
  where
    no_truth : IsTrue false → ⊥
    no_truth t = cc

defined : unmet_in (λ v. false) delay ≡ []
unfolding static
defined = refl

-- ---- reads

no_reads : (v u : Name) → Reads delay (clock_in delayed.clocks 0) v u → ⊥
unfolding static
no_reads v u h = go (bytes_eq v y) (clock_in delayed.clocks 0 v) (base_clock v) h
  where
    go : (b : Bool) (c : Clock) → c ≡ [] → IsTrue (list_any (same u) (((if b || false then [] else []) ++ []) ++ map (λ s. s.name) c)) → ⊥
    go true [] e t = cc
    go false [] e t = cc
    go b (s ∷ c) e t = cc

no_cycle : HasNoCycle (Reads delay (clock_in delayed.clocks 0))
no_cycle [] h = h
no_cycle (v ∷ []) h = no_reads v v h
no_cycle (v ∷ u ∷ rest) h = no_reads v u h.0

pub delayed_is_accepted : IsAcceptedProgram delayed
delayed_is_accepted = record {
  typed = typed;
  clocked = least_clocks;
  initialised = all_one (λ n. (g : Grades) × AreLeastGrades n g × (unmet_in g n ≡ [])) delay ((λ v. false), least_grades, defined);
  causal = only_node (λ k other. HasNoCycle (Reads other (clock_in delayed.clocks k))) no_cycle;
}

-- ---- ranges

delay_fits : FitsForm (out-Form (form.Fby (num 41 0) (var 47 x)))
delay_fits = subst FitsForm (sym (ap out-Form (sym (form.rolls-Fby (num 41 0) (var 47 x))) ∙ out-roll-Form (Form-F.Fby (num 41 0) (var 47 x)))) tt

zero_fits : FitsForm (out-Form (form.Const (Number (pos 0))))
zero_fits = subst FitsForm (sym (ap out-Form (sym (form.rolls-Const (Number (pos 0)))) ∙ out-roll-Form (Form-F.Const (Number (pos 0))))) (let fits : SFits w32 (pos 0) = search rules in fits)

variable_fits : FitsForm (out-Form (form.Var x))
variable_fits = subst FitsForm (sym (ap out-Form (sym (form.rolls-Var x)) ∙ out-roll-Form (Form-F.Var x))) tt

constants_fit : All (λ e. FitsForm (out-Form e.form)) (expressions delay)
unfolding static
constants_fit = All-from_recursion (λ e. FitsForm (out-Form e.form)) (expressions delay) (delay_fits, (zero_fits, (variable_fits, tt)))

initials_fit : All (λ d. FitsInit d.init) (variables delay)
unfolding static
initials_fit = All-from_recursion (λ d. FitsInit d.init) (variables delay) (tt, (tt, tt))

has_lefts : All (λ q. HasLeft q.part) (parts delay)
unfolding static
has_lefts = All-from_recursion (λ q. HasLeft q.part) (parts delay) (tt, (tt, tt))

pub delayed_is_in_range : IsInRange delayed.program
delayed_is_in_range = record {
  constructors = all_none (λ d. d.constructors ≡ [] → ⊥);
  constants = all_one (λ n. All (λ e. FitsForm (out-Form e.form)) (expressions n)) delay constants_fit;
  initials = all_one (λ n. All (λ d. FitsInit d.init) (variables n)) delay initials_fit;
  lefts = all_one (λ n. All (λ q. HasLeft q.part) (parts n)) delay has_lefts;
}
