-- An accepted program has an accepted erasure with the same clocks.
use Rattle.std.proofs.Common.{◌≡◌, ℕ, zero, suc, List, [], ◌∷◌, map, refl, sym, ap, subst, ◌∙◌}
use Rattle.std.specs.Prelude.{Option, Some, None, slice_get}
use Rattle.std.specs.Option.{option_map}
use Rattle.std.proofs.lemmas.Option.{slice_get-map}
use Rattle.hept_ast.specs.Texts.{Name, is_in, names}
use Rattle.hept_ast.specs.Parts.{variables}
use Rattle.hept_ast.specs.Clocks.{AreLeastClocks}
use Rattle.hept_ast.specs.ClockMaps.{clock_in}
use Rattle.hept_ast.specs.Stages.{declares_in, declares_at}
use Rattle.hept_ast.specs.Erasure.{erased_node}
use Rattle.hept_ast.specs.declared.tree.Decl.{Decl}
use Rattle.hept_ast.specs.declared.tree.Node.{Node}
use Rattle.hept_ast.proofs.ErasedPartsOf.{erased_keeps_causal}
use Rattle.hept_ast.proofs.ErasedTexts.{names_is}
use Rattle.erased_rules.specs.ErasedStages.{ErasedHasLeastClocks, ErasedKeepsClockedProgram, ErasedKeepsAccepted}
use Rattle.erased_rules.proofs.ErasedNodes.{variables_same}
use Rattle.erased_rules.proofs.DemandsKept.{erased_keeps_initialised}
use Rattle.erased_rules.proofs.ClocksKept.{erased_keeps_least_clocks}
use Rattle.erased_rules.proofs.TypesKept.{erased_keeps_typed}

node_at : (nodes : List Node) (k : ℕ) (m : Node) → slice_get (map erased_node nodes) k ≡ Some m → (n : Node) × (slice_get nodes k ≡ Some n) × (erased_node n ≡ m)
node_at [] k m is = cc
node_at (n ∷ nodes) zero m is = (n, refl, let e : erased_node n ≡ m = cc in e)
node_at (n ∷ nodes) (suc k) m is = node_at nodes k m is

declared_same : (n : Option Node) (x : Name) → declares_in (option_map erased_node n) x ≡ declares_in n x
declared_same None x = refl
declared_same (Some n) x = ap (λ (ds : List Decl). is_in x (names ds)) (variables_same n) ∙ ap (is_in x) (names_is (variables n))

declares_same : (nodes : List Node) (k : ℕ) (x : Name) → declares_at (map erased_node nodes) k x ≡ declares_at nodes k x
declares_same nodes k x = ap (λ (n : Option Node). declares_in n x) (slice_get-map erased_node nodes k) ∙ declared_same (slice_get nodes k) x

pub erased_has_least_clocks : ErasedHasLeastClocks
erased_has_least_clocks c h = record {
  least = λ k m is.
      let (n, at, e) = node_at c.program.nodes k m is in
      subst (λ (z : Node). AreLeastClocks z (clock_in c.clocks k)) e (erased_keeps_least_clocks n (clock_in c.clocks k) (h.least k n at));
  exact = λ k x. h.exact k x ∙ sym (declares_same c.program.nodes k x);
}

pub erased_keeps_clocked_program : ErasedKeepsClockedProgram
erased_keeps_clocked_program c full h = record { typed = erased_keeps_typed c.program full h.typed; clocked = erased_has_least_clocks c h.clocked }

pub erased_keeps_accepted : ErasedKeepsAccepted
erased_keeps_accepted c full h = record {
  typed = erased_keeps_typed c.program full h.typed;
  clocked = erased_has_least_clocks c h.clocked;
  initialised = erased_keeps_initialised c.program h.initialised;
  causal = erased_keeps_causal c.program (clock_in c.clocks) h.causal;
}
