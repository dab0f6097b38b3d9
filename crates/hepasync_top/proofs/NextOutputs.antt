-- The outputs of a program are those of the program with its futures erased.
use Rattle.std.proofs.Common.{◌≡◌, ℕ, ◌+◌, List, [], ◌∷◌, ◌++◌, length, take, drop, map, Option, Some, None, sym, refl, ap, ◌∙◌, subst}
use Rattle.std.specs.Prelude.{IsSomeAnd}
use Rattle.std.specs.Option.{option_map}
use Rattle.hept_ast.specs.Scopes.{Clock, Text}
use Rattle.hept_ast.specs.Settings.{no_marks, no_replies, of_program}
use Rattle.hept_ast.specs.ClockMaps.{clock_in}
use Rattle.hept_ast.specs.Texts.{Name}
use Rattle.hept_ast.specs.Outputs.{Outputs}
use Rattle.hept_ast.specs.Erasure.{erased, erased_node}
use Rattle.hept_ast.specs.ErasedScopes.{erased_text}
use Rattle.hept_ast.specs.Laws.{ErasedKeepsOutputs}
use Rattle.hept_ast.specs.Stages.{ClockedProgram, HasLeastClocks}
use Rattle.hept_ast.specs.declared.tree.Node.{Node}
use Rattle.hept_ast.specs.declared.tree.Program.{Program}
use Rattle.program_stepper.specs.Stepping.{GivesRows}
use Rattle.step_objects.specs.Interfaces.{last_text, main_text}
use Rattle.hepasync_top.specs.Outputs.{ErasedOutputs, ProgramOutputs}

last_erased : (n : ℕ) (nodes : List Node) → last_text n (map erased_node nodes) ≡ option_map erased_text (last_text n nodes)
last_erased n [] = refl
last_erased n (node ∷ []) = refl
last_erased n (node ∷ next ∷ nodes) = last_erased (n + 1) (next ∷ nodes)

of_main : (p : Program) (clock : ℕ → Name → Clock) (rows outs : List (List ℕ)) (main : Option Text) → ErasedKeepsOutputs → IsSomeAnd main (λ text. Outputs (of_program p clock no_marks no_replies) text rows outs) →
    IsSomeAnd (option_map erased_text main) (λ text. Outputs (of_program (erased p) clock no_marks no_replies) text rows outs)
of_main p clock rows outs None law h = h
of_main p clock rows outs (Some text) law h = law p clock no_marks no_replies text rows outs h

on_clocks : (p : Program) (clock : ℕ → Name → Clock) (rows outs : List (List ℕ)) → ErasedKeepsOutputs → ProgramOutputs p clock rows outs → ProgramOutputs (erased p) clock rows outs
on_clocks p clock rows outs law h =
    subst (λ main. IsSomeAnd main (λ text. Outputs (of_program (erased p) clock no_marks no_replies) text rows outs)) (sym (last_erased 0 p.nodes)) (of_main p clock rows outs (main_text p) law h)

pub erased_outputs : (c : ClockedProgram) (rows outs : List (List ℕ)) → ErasedKeepsOutputs → HasLeastClocks c.program c.clocks → GivesRows c rows outs → ErasedOutputs c.program rows outs
erased_outputs c rows outs law least outputs = record { clocks = c.clocks; least = least; outputs = on_clocks c.program (clock_in c.clocks) rows outs law outputs }

front : {X : Type 0} (xs ys : List X) → take (length xs) (xs ++ ys) ≡ xs
front [] ys = refl
front (x ∷ xs) ys = ap (λ zs. x ∷ zs) (front xs ys)

-- a slice of a list that was written whole
pub written_back : {X : Type 0} (old new : List X) (n : ℕ) → n ≡ length new → take n (new ++ drop (length new) old) ≡ new
written_back old new n e = ap (λ k. take k (new ++ drop (length new) old)) e ∙ front new (drop (length new) old)
