-- Types as code holds them, and the faults of a declaration by the types alone.
use Rattle.std.specs.Prelude.{Bool, true, false, not, if◌then◌else◌, List, [], ◌++◌, Option, None, Some, is_some}
use Rattle.hept_ast.specs.Types.{Plain_type, same_type, type_is_known, type_of_const}
use Rattle.hept_ast.specs.Faults.{Fault, UnknownName, Mismatch, fault}
use Rattle.hept_ast.specs.declared.tree.TypeDec.{TypeDec}
use Rattle.hept_ast.specs.declared.tree.Decl.{Decl}
use Rattle.hept_ast.specs.declared.tree.Init.{Init}
use Rattle.hept_ast.specs.declared.tree.Ty.{Ty}
use Rattle.hept_ast.specs.declared.tree.Ty.TheVariants as ty
use Rattle.hept_ast.specs.declared.tree.Plain.TheVariants.{Int, Bool as Truth_value, Named}
use Rattle.declared_types.specs.declared.typing.PlainType.{PlainType}
use Rattle.declared_types.specs.declared.typing.PlainType.TheVariants as held

abbrev pub plain_of : PlainType → Plain_type
plain_of held.Int = Int
plain_of held.Bool = Truth_value
plain_of (held.Named x) = Named x.now

-- a type by whether it is a future
abbrev pub type_with : Bool → Plain_type → Ty
type_with future t = if future then ty.Future t else ty.Plain t

-- whether a constant of this type fits a declaration
abbrev pub init_fits : Ty → (ready : Bool) → Option Plain_type → Bool
init_fits t ready None = true
init_fits t true (Some s) = same_type (ty.Future s) t
init_fits t false (Some s) = same_type (ty.Plain s) t

abbrev pub init_faults_by : List TypeDec → Decl → Option Init → List Fault
init_faults_by types d None = []
init_faults_by types d (Some i) =
    let s = type_of_const types i.value in
    fault d.place.0 UnknownName (not (is_some s)) ++ fault d.place.0 Mismatch (not (init_fits d.ty i.ready s))

-- the faults of a declaration
abbrev pub decl_faults_by : List TypeDec → Decl → List Fault
decl_faults_by types d = fault d.place.0 UnknownName (not (type_is_known types d.ty)) ++ init_faults_by types d d.init
