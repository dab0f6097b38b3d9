-- What an expression of an accepted program is like, form by form: types, clocks and demands at once, without faults,
-- and without the numbers of expressions.
use Rattle.std.specs.Prelude.{◌≡◌, ◌⊎◌, ℕ, true, false, not, ◌&&◌, if◌then◌else◌, IsTrue, List, [], ◌∷◌, ◌++◌, All, Some, is_some}
use Rattle.std.specs.List.{list_any}
use Rattle.hept_ast.specs.Texts.{Name, is_in}
use Rattle.hept_ast.specs.Scopes.{Clock}
use Rattle.hept_ast.specs.Parts.{Surroundings, seen_at, declaration}
use Rattle.hept_ast.specs.Clocks.{own_names}
use Rattle.hept_ast.specs.Initial.{Grades, grade}
use Rattle.hept_ast.specs.Types.{Fits, Plain_type, alike, async_fit, binary_fit, call_fit, divides, get_fit, has_tags, if_fit, same_tag, same_type, tags_of, type_of_const, type_of_tag, unary_fit}
use Rattle.hept_ast.specs.Faults.{calls_lead, calls_of, is_nonzero, node_named}
use Rattle.hept_ast.specs.declared.tree.TypeDec.{TypeDec}
use Rattle.hept_ast.specs.declared.tree.Node.{Node}
use Rattle.hept_ast.specs.declared.tree.Decl.{Decl}
use Rattle.hept_ast.specs.declared.tree.Expr.{Expr}
use Rattle.hept_ast.specs.declared.tree.MergeBranch.{MergeBranch}
use Rattle.hept_ast.specs.declared.tree.Tag.{Tag}
use Rattle.hept_ast.specs.declared.tree.Ty.{Ty}
use Rattle.hept_ast.specs.declared.tree.Ty.TheVariants as ty
use Rattle.hept_ast.specs.declared.tree.Const.{Const as Constant}
use Rattle.hept_ast.specs.declared.tree.UnaryOp.{UnaryOp}
use Rattle.hept_ast.specs.declared.tree.BinaryOp.{BinaryOp}
use Rattle.hept_ast.specs.declared.tree.Form.{out-Form}
use Rattle.hept_ast.specs.declared.tree.Form.TheOpen.{Form-F}
use Rattle.hept_ast.specs.TypedValues.{FitsConst}

-- a node of a program, with the clocks of its variables and their grades
pub record Within : Type 0 where
  pub types : List TypeDec
  pub nodes : List Node
  pub node : Node
  pub clock : Name → Clock
  pub grade : Grades

-- a variable that is seen at a site, by its declaration, and its clock there: one from outside is on the base clock
pub record Sees (k : Within) (site : Surroundings) (x : Name) (d : Decl) (c : Clock) : Type 0 where
  pub declared : declaration (seen_at k.node site) x ≡ Some d
  pub here : (if is_in x (own_names k.node site) then k.clock x else []) ≡ c
  pub outer : (is_in x (own_names k.node site) ≡ true) ⊎ (k.clock x ≡ [])

-- a tag of a type with tags
pub record IsTagOf (types : List TypeDec) (tag : Tag) (t : Ty) : Type 0 where
  pub plain : Plain_type
  pub known : type_of_tag types tag ≡ Some plain
  pub fits : same_type (ty.Plain plain) t ≡ true

-- each tag of a type is among some
abbrev pub AreAllTags : List TypeDec → Ty → List Tag → Type 0
AreAllTags types t given = All (λ tag. IsTrue (list_any (same_tag tag) given)) (tags_of types t)

abbrev pub branch_tags : List MergeBranch → List Tag
branch_tags [] = []
branch_tags (b ∷ bs) = b.tag ∷ branch_tags bs

mutual
  -- an expression that stands at a site, on a clock, gives these types
  pub data Sound (k : Within) (site : Surroundings) : Expr → Clock → List Ty → Type 0 where
    is_constant : {e : Expr} {c : Clock} {v : Constant} {t : Plain_type} →
        out-Form e.form ≡ Form-F.Const v → type_of_const k.types v ≡ Some t → FitsConst v → Sound k site e c (ty.Plain t ∷ [])
    is_async_constant : {e : Expr} {c : Clock} {v : Constant} {t : Plain_type} →
        out-Form e.form ≡ Form-F.AsyncConst v → type_of_const k.types v ≡ Some t → FitsConst v → Sound k site e c (ty.Future t ∷ [])
    is_variable : {e : Expr} {c : Clock} {x : Name} {d : Decl} →
        out-Form e.form ≡ Form-F.Var x → Sees k site x d c → Sound k site e c (d.ty ∷ [])
    is_last : {e : Expr} {c : Clock} {x : Name} {d : Decl} →
        out-Form e.form ≡ Form-F.Last x → Sees k site x d c → is_some d.init ≡ true → Sound k site e c (d.ty ∷ [])
    is_unary : {e a : Expr} {c : Clock} {op : UnaryOp} {us ts : List Ty} →
        out-Form e.form ≡ Form-F.Unary op a → Sound k site a c us → unary_fit op (us ∷ []) ≡ Fits ts → Sound k site e c ts
    is_binary : {e a b : Expr} {c : Clock} {op : BinaryOp} {us vs ts : List Ty} →
        out-Form e.form ≡ Form-F.Binary op a b → Sound k site a c us → Sound k site b c vs → binary_fit op (us ∷ vs ∷ []) ≡ Fits ts →
        divides op && not (is_nonzero b.form) ≡ false → Sound k site e c ts
    is_if : {e i a b : Expr} {c : Clock} {is us vs ts : List Ty} →
        out-Form e.form ≡ Form-F.If i a b → Sound k site i c is → Sound k site a c us → Sound k site b c vs → if_fit (is ∷ us ∷ vs ∷ []) ≡ Fits ts → Sound k site e c ts
    is_fby : {e a b : Expr} {c : Clock} {us vs ts : List Ty} →
        out-Form e.form ≡ Form-F.Fby a b → Sound k site a c us → Sound k site b c vs → alike (us ∷ vs ∷ []) ≡ Fits ts → grade k.grade b.form ≡ false → Sound k site e c ts
    is_pre : {e a : Expr} {c : Clock} {us ts : List Ty} →
        out-Form e.form ≡ Form-F.Pre a → Sound k site a c us → alike (us ∷ []) ≡ Fits ts → grade k.grade a.form ≡ false → Sound k site e c ts
    is_arrow : {e a b : Expr} {c : Clock} {us vs ts : List Ty} →
        out-Form e.form ≡ Form-F.Arrow a b → Sound k site a c us → Sound k site b c vs → alike (us ∷ vs ∷ []) ≡ Fits ts → Sound k site e c ts
    is_when : {e a : Expr} {c : Clock} {tag : Tag} {x : Name} {d : Decl} {us ts : List Ty} →
        out-Form e.form ≡ Form-F.When a tag x → Sees k site x d c → Sound k site a c us → IsTagOf k.types tag d.ty → has_tags d.ty ≡ true →
        alike (us ∷ []) ≡ Fits ts → k.grade x ≡ false → Sound k site e (c ++ record { tag = tag; name = x } ∷ []) ts
    is_merge : {e : Expr} {c : Clock} {x : Name} {d : Decl} {bs : List MergeBranch} {tss : List (List Ty)} {ts : List Ty} →
        out-Form e.form ≡ Form-F.Merge x bs → Sees k site x d c → has_tags d.ty ≡ true → k.grade x ≡ false →
        SoundBranches k site x d.ty c bs tss → AreAllTags k.types d.ty (branch_tags bs) → alike tss ≡ Fits ts → Sound k site e c ts
    is_call : {e : Expr} {c : Clock} {f : Name} {args : List Expr} {g : Node} {tss : List (List Ty)} {ts : List Ty} →
        out-Form e.form ≡ Form-F.Call f args → node_named k.nodes f ≡ Some g → SoundArguments k site args c tss → call_fit g tss ≡ Fits ts →
        calls_lead k.nodes g.name k.node.name ≡ false → is_in f (calls_of (Some k.node)) ≡ true → Sound k site e c ts
    is_async_call : {e : Expr} {c : Clock} {q : ℕ} {f : Name} {args : List Expr} {g : Node} {tss : List (List Ty)} {ts : List Ty} →
        out-Form e.form ≡ Form-F.AsyncCall q f args → node_named k.nodes f ≡ Some g → SoundArguments k site args c tss → async_fit (call_fit g tss) ≡ Fits ts →
        calls_lead k.nodes g.name k.node.name ≡ false → is_in f (calls_of (Some k.node)) ≡ true → Sound k site e c ts
    is_get : {e a : Expr} {c : Clock} {us ts : List Ty} →
        out-Form e.form ≡ Form-F.Get a → Sound k site a c us → get_fit (us ∷ []) ≡ Fits ts → Sound k site e c ts

  -- arguments of a call, none of which may be undefined
  pub data SoundArguments (k : Within) (site : Surroundings) : List Expr → Clock → List (List Ty) → Type 0 where
    no_arguments : {c : Clock} → SoundArguments k site [] c []
    an_argument : {e : Expr} {es : List Expr} {c : Clock} {ts : List Ty} {tss : List (List Ty)} →
        Sound k site e c ts → grade k.grade e.form ≡ false → SoundArguments k site es c tss → SoundArguments k site (e ∷ es) c (ts ∷ tss)

  -- branches of a merge over a variable of a type and clock, none of which may be undefined
  pub data SoundBranches (k : Within) (site : Surroundings) : Name → Ty → Clock → List MergeBranch → List (List Ty) → Type 0 where
    no_branches : {x : Name} {t : Ty} {c : Clock} → SoundBranches k site x t c [] []
    a_branch : {x : Name} {t : Ty} {c : Clock} {b : MergeBranch} {bs : List MergeBranch} {ts : List Ty} {tss : List (List Ty)} →
        IsTagOf k.types b.tag t → Sound k site b.value (c ++ record { tag = b.tag; name = x } ∷ []) ts → grade k.grade b.value.form ≡ false →
        SoundBranches k site x t c bs tss → SoundBranches k site x t c (b ∷ bs) (ts ∷ tss)
