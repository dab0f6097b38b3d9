-- What a core with the static facts is like, form by form: types, clocks, grades and demands at once.
use Rattle.std.specs.Prelude.{◌≡◌, ◌⊎◌, ℕ, ⊤, Bool, true, false, if◌then◌else◌, ◌==◌, length, List, [], ◌∷◌, ◌++◌, map, Contains, Some}
use Rattle.std.specs.List.{find, flat_map}
use Rattle.hept_ast.specs.Texts.{Name, same, is_in, names}
use Rattle.hept_ast.specs.Scopes.{Clock, equation_of}
use Rattle.hept_ast.specs.Parts.{declaration, inside}
use Rattle.hept_ast.specs.Types.{Fits as Of_types, Plain_type, binary_fit, future_of, has_tags, type_of_const, types_of, unary_fit}
use Rattle.hept_ast.specs.declared.tree.ClockStep.{ClockStep}
use Rattle.hept_ast.specs.declared.tree.Core.{Core}
use Rattle.hept_ast.specs.declared.tree.CoreNode.{CoreNode}
use Rattle.hept_ast.specs.declared.tree.CoreEquation.{CoreEquation}
use Rattle.hept_ast.specs.declared.tree.Decl.{Decl}
use Rattle.hept_ast.specs.declared.tree.Expr.{Expr}
use Rattle.hept_ast.specs.declared.tree.MergeBranch.{MergeBranch}
use Rattle.hept_ast.specs.declared.tree.Tag.{Tag}
use Rattle.hept_ast.specs.declared.tree.Ty.{Ty}
use Rattle.hept_ast.specs.declared.tree.Ty.TheVariants as ty
use Rattle.hept_ast.specs.declared.tree.Plain.TheVariants.{Bool as Truth_value}
use Rattle.hept_ast.specs.declared.tree.Const.{Const as Constant}
use Rattle.hept_ast.specs.declared.tree.UnaryOp.{UnaryOp}
use Rattle.hept_ast.specs.declared.tree.BinaryOp.{BinaryOp}
use Rattle.hept_ast.specs.declared.tree.Form.{out-Form}
use Rattle.hept_ast.specs.declared.tree.Form.TheOpen.{Form-F}
use Rattle.hept_ast.specs.TypedValues.{FitsConst}
use Rattle.core_rules.specs.Cores.{as_node, core_clock, core_decls}
use Rattle.core_rules.specs.WellFormed.{CallsNode}
use Rattle.sound_expressions.specs.Sound.{AreAllTags, branch_tags}
use Rattle.core_facts.specs.Undefined.{Allows, AreWithin, Grades}
use Rattle.sound_expressions.specs.Demands.{NamesDiffer}

-- ---- a node of a core, by the name by which it is called, with the grades of its variables

pub record Within : Type 0 where
  pub name : Name
  pub node : CoreNode
  pub grade : Grades

abbrev pub IsNamed : Core → Name → CoreNode → Type 0
IsNamed core f node = find (λ n. same f n.name) core.nodes ≡ Some node

-- a variable by its declaration, and its clock
pub record Reads (k : Within) (x : Name) (d : Decl) (c : Clock) : Type 0 where
  pub declared : declaration (core_decls k.node) x ≡ Some d
  pub clock : core_clock k.node x ≡ c

-- a call, by the node that it names; async or not
pub data IsCall (e : Expr) (f : Name) (args : List Expr) : Bool → Type 0 where
  sync : out-Form e.form ≡ Form-F.Call f args → IsCall e f args false
  async : {q : ℕ} → out-Form e.form ≡ Form-F.AsyncCall q f args → IsCall e f args true

abbrev pub results : Bool → CoreNode → List Ty
results future g = if future then map future_of (types_of g.outputs) else types_of g.outputs

abbrev pub expressions_in : CoreNode → List Expr
expressions_in node = flat_map (λ e. inside e.right) node.equations

-- ---- right sides, under the resets of their equation: on a clock, of a type, with a grade

mutual
  pub data Sound (core : Core) (k : Within) (resets : List Name) : Expr → Clock → Ty → List (List Name) → Type 0 where
    is_constant : {e : Expr} {c : Clock} {v : Constant} {t : Plain_type} →
        out-Form e.form ≡ Form-F.Const v → type_of_const core.types v ≡ Some t → FitsConst v → Sound core k resets e c (ty.Plain t) []
    is_async_constant : {e : Expr} {c : Clock} {v : Constant} {t : Plain_type} →
        out-Form e.form ≡ Form-F.AsyncConst v → type_of_const core.types v ≡ Some t → FitsConst v → Sound core k resets e c (ty.Future t) []
    is_variable : {e : Expr} {c : Clock} {x : Name} {d : Decl} → out-Form e.form ≡ Form-F.Var x → Reads k x d c → Sound core k resets e c d.ty (k.grade x)
    is_unary : {e a : Expr} {c : Clock} {op : UnaryOp} {u t : Ty} {n : List (List Name)} →
        out-Form e.form ≡ Form-F.Unary op a → Sound core k resets a c u n → unary_fit op ((u ∷ []) ∷ []) ≡ Of_types (t ∷ []) → Sound core k resets e c t n
    is_binary : {e a b : Expr} {c : Clock} {op : BinaryOp} {u v t : Ty} {n m : List (List Name)} →
        out-Form e.form ≡ Form-F.Binary op a b → Sound core k resets a c u n → Sound core k resets b c v m → binary_fit op ((u ∷ []) ∷ (v ∷ []) ∷ []) ≡ Of_types (t ∷ []) →
        Sound core k resets e c t (n ++ m)
    is_if : {e i a b : Expr} {c : Clock} {t : Ty} {l n m : List (List Name)} →
        out-Form e.form ≡ Form-F.If i a b → Sound core k resets i c (ty.Plain Truth_value) l → Sound core k resets a c t n → Sound core k resets b c t m → Sound core k resets e c t (l ++ n ++ m)
    -- the right operand is never undefined
    is_fby : {e a b : Expr} {c : Clock} {t : Ty} {n : List (List Name)} →
        out-Form e.form ≡ Form-F.Fby a b → Sound core k resets a c t n → Sound core k resets b c t [] → Sound core k resets e c t n
    is_pre : {e a : Expr} {c : Clock} {t : Ty} → out-Form e.form ≡ Form-F.Pre a → Sound core k resets a c t [] → Sound core k resets e c t (resets ∷ [])
    -- the right operand is undefined at most where the left one is taken
    is_arrow : {e a b : Expr} {c : Clock} {t : Ty} {n m : List (List Name)} →
        out-Form e.form ≡ Form-F.Arrow a b → Sound core k resets a c t n → Sound core k resets b c t m → AreWithin m resets → Sound core k resets e c t n
    is_when : {e a : Expr} {c : Clock} {tag : Tag} {x : Name} {d : Decl} {t : Ty} {n : List (List Name)} →
        out-Form e.form ≡ Form-F.When a tag x → Reads k x d c → k.grade x ≡ [] → Sound core k resets a c t n → Sound core k resets e (c ++ record { tag = tag; name = x } ∷ []) t n
    -- a branch for each tag of the variable's type, none undefined
    is_merge : {e : Expr} {c : Clock} {x : Name} {d : Decl} {bs : List MergeBranch} {t : Ty} →
        out-Form e.form ≡ Form-F.Merge x bs → Reads k x d c → k.grade x ≡ [] → has_tags d.ty ≡ true → AreAllTags core.types d.ty (branch_tags bs) →
        SoundBranches core k resets x c bs t → Sound core k resets e c t []
    is_result : {e : Expr} {c : Clock} {t : Ty} → SoundCall core k resets e c (t ∷ []) → Sound core k resets e c t []
    is_get : {e a : Expr} {c : Clock} {t : Plain_type} {n : List (List Name)} →
        out-Form e.form ≡ Form-F.Get a → Sound core k resets a c (ty.Future t) n → Sound core k resets e c (ty.Plain t) n

  -- a call, which gives these types
  pub data SoundCall (core : Core) (k : Within) (resets : List Name) : Expr → Clock → List Ty → Type 0 where
    is_call : {e : Expr} {c : Clock} {f : Name} {args : List Expr} {future : Bool} {g : CoreNode} {ts : List Ty} →
        IsCall e f args future → IsNamed core f g → CallsNode (map as_node core.nodes) k.name f → Contains (expressions_in k.node) e →
        SoundArguments core k resets args c g.inputs → results future g ≡ ts → SoundCall core k resets e c ts

  pub data SoundArguments (core : Core) (k : Within) (resets : List Name) : List Expr → Clock → List Decl → Type 0 where
    no_arguments : {c : Clock} → SoundArguments core k resets [] c []
    an_argument : {e : Expr} {es : List Expr} {c : Clock} {d : Decl} {ds : List Decl} →
        Sound core k resets e c d.ty [] → SoundArguments core k resets es c ds → SoundArguments core k resets (e ∷ es) c (d ∷ ds)

  pub data SoundBranches (core : Core) (k : Within) (resets : List Name) : Name → Clock → List MergeBranch → Ty → Type 0 where
    no_branches : {x : Name} {c : Clock} {t : Ty} → SoundBranches core k resets x c [] t
    a_branch : {x : Name} {c : Clock} {b : MergeBranch} {bs : List MergeBranch} {t : Ty} →
        Sound core k resets b.value (c ++ record { tag = b.tag; name = x } ∷ []) t [] → SoundBranches core k resets x c bs t → SoundBranches core k resets x c (b ∷ bs) t

-- ---- equations and nodes

-- each step's variable is on the clock of the steps before it, and never undefined
pub data IsProper (k : Within) : Clock → Type 0 where
  base : IsProper k []
  one_more : {c : Clock} {d : Decl} (p : ClockStep) → IsProper k c → Reads k p.name d c → k.grade p.name ≡ [] → IsProper k (c ++ p ∷ [])

-- each name of a left side has its type, and the clock of the equation
abbrev pub SoundLeft : Within → Clock → List Name → List Ty → Type 0
SoundLeft k c [] [] = ⊤
SoundLeft k c (x ∷ xs) (t ∷ ts) = ((d : Decl) × Reads k x d c × (d.ty ≡ t)) × SoundLeft k c xs ts
SoundLeft k c _ _ = ⊥

pub data SoundRight (core : Core) (k : Within) (e : CoreEquation) : Type 0 where
  one_name : {x : Name} {d : Decl} {n : List (List Name)} → e.left ≡ x ∷ [] → Reads k x d e.clock.steps →
      Sound core k e.resets e.right e.clock.steps d.ty n → Allows (k.grade x) n → SoundRight core k e
  results_of : {ts : List Ty} → (length e.left == 1) ≡ false → SoundCall core k e.resets e.right e.clock.steps ts → SoundLeft k e.clock.steps e.left ts → SoundRight core k e

-- what resets is a truth value, never undefined
abbrev pub SoundReset : Within → Name → Type 0
SoundReset k x = (d : Decl) × (declaration (core_decls k.node) x ≡ Some d) × (d.ty ≡ ty.Plain Truth_value) × (k.grade x ≡ [])

abbrev pub SoundResets : Within → List Name → Type 0
SoundResets k resets = (x : Name) → is_in x resets ≡ true → SoundReset k x

pub record SoundEquation (core : Core) (k : Within) (e : CoreEquation) : Type 0 where
  pub right : SoundRight core k e
  pub clock : IsProper k e.clock.steps
  pub resets : SoundResets k e.resets

-- inputs and outputs are on the base clock and never undefined
abbrev pub SoundInterface : Within → List Decl → Type 0
SoundInterface k ds = (d : Decl) → Contains ds d → Reads k d.name d [] × (k.grade d.name ≡ [])

pub record SoundNode (core : Core) (k : Within) : Type 0 where
  pub equations : (e : CoreEquation) → Contains k.node.equations e → SoundEquation core k e
  pub inputs : SoundInterface k k.node.inputs
  pub outputs : SoundInterface k k.node.outputs
  -- what is declared is an input, or on the left of an equation
  pub defined : (x : Name) (d : Decl) → declaration (core_decls k.node) x ≡ Some d →
      ((is_in x (names k.node.inputs) ≡ true) × (core_clock k.node x ≡ []))
      ⊎ ((e : CoreEquation) × (equation_of k.node x ≡ Some e) × (is_in x (names k.node.inputs) ≡ false))

abbrev pub within : Name → CoreNode → Grades → Within
within f node g = record { name = f; node = node; grade = g }

pub record SoundCore (core : Core) : Type 0 where
  pub types : NamesDiffer (map (λ d. d.name) core.types)
  pub constructors : NamesDiffer (flat_map (λ d. d.constructors) core.types)
  -- some grades for each node that can be called
  pub nodes : (f : Name) (node : CoreNode) → IsNamed core f node → (g : Grades) × SoundNode core (within f node g)
