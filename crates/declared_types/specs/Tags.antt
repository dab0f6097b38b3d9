-- Tags of a type, and the tags of a switch.
use Rattle.std.specs.Prelude.{ℕ, Bool, true, not, ◌||◌, List, [], ◌++◌, Option, None, Some, is_some}
use Rattle.std.specs.List.{list_any, flat_map}
use Rattle.hept_ast.specs.Faults.{Fault, Mismatch, NotDefined, UnknownName, fault}
use Rattle.hept_ast.specs.Types.{Plain_type, has_tags, same_tag, same_type, tags_of, type_of_tag}
use Rattle.hept_ast.specs.declared.tree.Branch.{Branch}
use Rattle.hept_ast.specs.declared.tree.TypeDec.{TypeDec}
use Rattle.hept_ast.specs.declared.tree.Tag.{Tag}
use Rattle.hept_ast.specs.declared.tree.Ty.{Ty}
use Rattle.hept_ast.specs.declared.tree.Ty.TheVariants as ty

-- whether a tag is one of a type; it is asked only of a type with tags, and of a known tag
abbrev pub fits_tag : Option Plain_type → Ty → Bool
fits_tag None t = true
fits_tag (Some s) t = not (has_tags t) || same_type (ty.Plain s) t

-- a tag of a switch, if the scrutinee has a type
abbrev pub tag_faults_by : List TypeDec → ℕ → Tag → Option Ty → List Fault
tag_faults_by types p t None = fault p UnknownName (not (is_some (type_of_tag types t)))
tag_faults_by types p t (Some on) = fault p UnknownName (not (is_some (type_of_tag types t))) ++ fault p Mismatch (not (fits_tag (type_of_tag types t) on))

abbrev pub branch_tag_faults : List TypeDec → Option Ty → List Branch → List Fault
branch_tag_faults types on bs = flat_map (λ b. tag_faults_by types b.place.0 b.tag on) bs

-- no branch has the tag
abbrev pub is_left_out : {B : Type 0} → (tag_of : B → Tag) → List B → Tag → Bool
is_left_out tag_of bs t = not (list_any (λ b. same_tag t (tag_of b)) bs)

-- a tag of the type is lacking
abbrev pub is_lacking : {B : Type 0} → List TypeDec → (tag_of : B → Tag) → List B → Ty → Bool
is_lacking types tag_of bs on = list_any (is_left_out tag_of bs) (tags_of types on)

-- a switch with these branches on a value of this type lacks a tag
abbrev pub lack_fault : List TypeDec → ℕ → List Branch → Option Ty → List Fault
lack_fault types p bs None = []
lack_fault types p bs (Some on) = fault p NotDefined (is_lacking types (λ b. b.tag) bs on)
