-- The values of constants and tags, and which branch or state they choose.
use Rattle.std.proofs.Common.{◌≡◌, ℕ, ◌+◌, ◌<◌, Bool, true, false, ◌||◌, if◌then◌else◌, List, [], ◌∷◌, map, length, refl, ap, subst, arith}
use Rattle.std.specs.Prelude.{suc}
use Rattle.std.proofs.lemmas.Bool.{false≢true}
use Rattle.hept_ast.specs.Texts.{same, is_in, state_named}
use Rattle.hept_ast.specs.Parts.{branch_case}
use Rattle.hept_ast.specs.InnerParts.{state_names}
use Rattle.hept_ast.specs.Stages.{ClockedProgram}
use Rattle.hept_ast.specs.declared.tree.Branch.{Branch}
use Rattle.sound_expressions.specs.Sound.{AreAllTags}
use Rattle.sound_expressions.proofs.Values.{value_found}
use Rattle.accepted_meaning.specs.SoundNodes.{SoundProgram}
use Rattle.accepted_meaning.specs.Structure.{BranchOfValue, ConstantFits, MergeOfValue, StateOfName, TagFits, TagsDiffer}
use Rattle.sound_expressions.proofs.Values as types

pub constant_fits : (c : ClockedProgram) → SoundProgram c → ConstantFits c
constant_fits c h v t fits e = types.constant_fits c.program.types h.types v t fits e

pub tag_fits : (c : ClockedProgram) → SoundProgram c → TagFits c
tag_fits c h tag t is = types.tag_fits c.program.types h.types tag t is

pub tags_differ : (c : ClockedProgram) → SoundProgram c → TagsDiffer c
tags_differ c h a b t is_a is_b v = types.tags_differ c.program.types h.types a b t is_a is_b v

case_labels : (bs : List Branch) → map (λ q. q.label) (map branch_case bs) ≡ map (λ b. b.tag) bs
case_labels [] = refl
case_labels (b ∷ bs) = ap (λ l. b.tag ∷ l) (case_labels bs)

pub branch_of_value : (c : ClockedProgram) → SoundProgram c → BranchOfValue c
branch_of_value c h t v bs tagged all lt = value_found c.program.types h.constructors (λ (b : Branch). b.tag) t v bs tagged (subst (AreAllTags c.program.types t) (case_labels bs) all) lt

pub merge_of_value : (c : ClockedProgram) → SoundProgram c → MergeOfValue c
merge_of_value c h t v bs tagged all lt = types.merge_of_value c.program.types h.constructors t v bs tagged all lt

-- ---- states

state_by : (b r : Bool) (n m : ℕ) → (r ≡ true → n < m) → b || r ≡ true → (if b then 0 else n + 1) < suc m
state_by true r n m h e = omega arith
state_by false r n m h e = let k = h e in omega arith

pub state_of_name : StateOfName
state_of_name x [] e = absurd (false≢true e)
state_of_name x (q ∷ qs) e = state_by (same x q.name) (is_in x (state_names qs)) (state_named x qs) (length qs) (state_of_name x qs) e
