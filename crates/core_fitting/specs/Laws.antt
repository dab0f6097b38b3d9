-- The laws of ordered cores with these static facts.
use Rattle.std.specs.Prelude.{◌≡◌, ℕ, ◌<◌, ⊤, Bool, true, List, [], ◌∷◌, length, Contains, Some, ◌==◌, map}
use Rattle.std.specs.List.{find}
use Rattle.hept_ast.specs.Texts.{Name, is_in, tag_value}
use Rattle.hept_ast.specs.Scopes.{Clock, Scope, Under, Lowered, input_decls}
use Rattle.hept_ast.specs.Outputs.{Outputs}
use Rattle.hept_ast.specs.Sites.{Sent, Site, Sites}
use Rattle.hept_ast.specs.Meaning.{Gives, Variable, Present, Answer, Value, Is}
use Rattle.hept_ast.specs.TypedValues.{IsValueOf, RowsFit}
use Rattle.hept_ast.specs.declared.tree.CoreEquation.{CoreEquation}
use Rattle.hept_ast.specs.declared.tree.Decl.{Decl}
use Rattle.hept_ast.specs.declared.tree.Expr.{Expr}
use Rattle.hept_ast.specs.declared.tree.MergeBranch.{MergeBranch}
use Rattle.hept_ast.specs.declared.tree.Ty.{Ty}
use Rattle.hept_ast.specs.declared.tree.Form.{out-Form}
use Rattle.hept_ast.specs.declared.tree.Form.TheOpen.{Form-F}
use Rattle.core_rules.specs.Cores.{core_clock, core_decls}
use Rattle.hept_ast.specs.Parts.{declaration}
use Rattle.hept_ast.specs.declared.tree.ClockStep.{ClockStep}
use Rattle.hept_ast.specs.declared.tree.CoreNode.{CoreNode}
use Rattle.schedule.specs.Order.{IsOrdered}
use Rattle.core_fitting.specs.Sound.{IsCall, IsNamed, IsProper, Sound, SoundCall, SoundCore, SoundNode, SoundResets, Within}
use Rattle.core_fitting.specs.Holding.{Run, Holds, IsBody, IsKnown, RepliesFit, setting_of, types_in}

-- a node of an ordered core with the static facts, on rows and under replies that fit; marks are free
pub record IsFitRun (r : Run) (chosen : Within) : Type 0 where
  pub ordered : IsOrdered r.core
  pub sound : SoundCore r.core
  pub named : IsNamed r.core chosen.name chosen.node
  pub node : SoundNode r.core chosen
  pub rows_fit : RowsFit (types_in r) chosen.node.inputs r.rows
  pub replies_fit : RepliesFit r chosen.node []

-- at every instant, in each body of the expanded text
abbrev pub HoldsEverywhere : Type 0
HoldsEverywhere = (r : Run) (chosen : Within) → IsFitRun r chosen → (k : Within) (s : Scope) → IsBody r chosen k s → (t : ℕ) → t < length r.rows → Holds r k s t

-- ---- what a stepper needs, in each body of the expanded text at every instant

abbrev pub InBodies : ((r : Run) → Within → Scope → ℕ → Type 0) → Type 0
InBodies P = (r : Run) (chosen : Within) → IsFitRun r chosen → (k : Within) (s : Scope) → IsBody r chosen k s → (t : ℕ) → t < length r.rows → P r k s t

-- a variable that is never undefined has a value of its type where its clock is present
abbrev pub IsFirm : Run → Within → Scope → ℕ → Name → Type 0
IsFirm r k s t x = (a : Answer) → IsKnown r (Variable x s t) a → IsKnown r (Present (core_clock k.node x) s t) (Is true) →
    (v : ℕ) × (d : Decl) × (a ≡ Value v) × (declaration (core_decls k.node) x ≡ Some d) × IsValueOf (types_in r) d.ty v

-- so are the variables of the clocks and resets of equations
abbrev pub ClocksAreFirm : Type 0
ClocksAreFirm = InBodies (λ r k s t. (e : CoreEquation) (p : ClockStep) → Contains k.node.equations e → Contains e.clock.steps p → IsFirm r k s t p.name)

abbrev pub ResetsAreFirm : Type 0
ResetsAreFirm = InBodies (λ r k s t. (e : CoreEquation) (x : Name) → Contains k.node.equations e → is_in x e.resets ≡ true → IsFirm r k s t x)

-- and those of merges, each value of which is the tag of a branch
abbrev pub MergesAreCovered : Type 0
MergesAreCovered = InBodies (λ r k s t. (resets : List Name) (e : Expr) (c : Clock) (y : Ty) (n : List (List Name)) (x : Name) (bs : List MergeBranch) →
    Sound r.core k resets e c y n → out-Form e.form ≡ Form-F.Merge x bs →
    IsFirm r k s t x × ((v : ℕ) → IsKnown r (Variable x s t) (Value v) → (b : MergeBranch) × (find (λ m. tag_value (types_in r) m.tag == v) bs ≡ Some b)))

-- arguments of calls, async or not, have values of the inputs' types where the call is present
abbrev pub HaveArguments : Run → Scope → ℕ → Clock → List Expr → List Decl → Type 0
HaveArguments r u t c [] [] = ⊤
HaveArguments r u t c (e ∷ es) (d ∷ ds) = ((v : ℕ) × IsKnown r (Gives e c u t) (Value v) × IsValueOf (types_in r) d.ty v) × HaveArguments r u t c es ds
HaveArguments r u t c _ _ = ⊥

abbrev pub CallsHaveArguments : Type 0
CallsHaveArguments = InBodies (λ r k s t. (resets : List Name) (e : Expr) (c : Clock) (ts : List Ty) (f : Name) (args : List Expr) (future : Bool) →
    SoundResets k resets → SoundCall r.core k resets e c ts → IsProper k c → IsCall e f args future → IsKnown r (Present c (Under s resets) t) (Is true) →
    (g : CoreNode) × IsNamed r.core f g × HaveArguments r (Under s resets) t c args g.inputs)

-- each output is known at every instant, and is a value of its type
abbrev pub OutputsFit : Type 0
OutputsFit = (r : Run) (chosen : Within) → IsFitRun r chosen → (outs : List (List ℕ)) × Outputs (setting_of r) (Lowered chosen.node) r.rows outs × RowsFit (types_in r) chosen.node.outputs outs

-- each site is sent calls whose arguments are values of the called node's inputs
abbrev pub SitesAreSent : Type 0
SitesAreSent = (r : Run) (chosen : Within) → IsFitRun r chosen → (sites : List Site) (site : Site) → Sites (setting_of r) (Lowered chosen.node) sites → Contains sites site →
    (calls : List (Bool × List ℕ)) × Sent (setting_of r) r.rows site calls × RowsFit (types_in r) (input_decls site.text) (map (λ x. x.1) calls)

-- whatever may not be undefined is firm: with this the variables of `when` inside right sides are too
abbrev pub DefinedIsFirm : Type 0
DefinedIsFirm = InBodies (λ r k s t. (x : Name) (d : Decl) → declaration (core_decls k.node) x ≡ Some d → k.grade x ≡ [] → IsFirm r k s t x)
