-- Rows of outputs with one more row.
use Rattle.std.proofs.Common.{◌≡◌, ℕ, suc, ◌+◌, List, [], ◌∷◌, ◌++◌, length, Option, Some, None, subst, arith}
use Rattle.std.specs.Prelude.{IsSomeAnd}
use Rattle.hept_ast.specs.Scopes.{Text}
use Rattle.hept_ast.specs.Meaning.{Question, Setting}
use Rattle.hept_ast.specs.Outputs.{HaveValues, Outputs, OutputsFrom, output_questions}
use Rattle.hept_ast.specs.Stages.{ClockedProgram}
use Rattle.hept_ast.specs.TypedValues.{RowFits, RowsFit}
use Rattle.hept_ast.specs.declared.tree.Decl.{Decl}
use Rattle.hept_ast.specs.declared.tree.TypeDec.{TypeDec}
use Rattle.hept_ast.proofs.Depths.{kept_by_rows}
use Rattle.step_objects.specs.Interfaces.{main_text}
use Rattle.program_stepper.specs.Stepping.{setting, GivesRows, GivesLast}

values_kept : (w : Setting) (rows more : List (List ℕ)) (qs : List Question) (vs : List ℕ) → HaveValues w rows qs vs → HaveValues w (rows ++ more) qs vs
values_kept w rows more [] [] h = tt
values_kept w rows more [] (v ∷ vs) h = elim h [ ]
values_kept w rows more (q ∷ qs) [] h = elim h [ ]
values_kept w rows more (q ∷ qs) (v ∷ vs) h = (kept_by_rows w rows more q _ h.0, values_kept w rows more qs vs h.1)

one_more : (w : Setting) (rows : List (List ℕ)) (row out : List ℕ) (text : Text) (t n : ℕ) (left outs : List (List ℕ)) → n ≡ t + length left →
    OutputsFrom w rows text t left outs → HaveValues w (rows ++ row ∷ []) (output_questions text n) out →
    OutputsFrom w (rows ++ row ∷ []) text t (left ++ row ∷ []) (outs ++ out ∷ [])
one_more w rows row out text t n [] [] e h g =
    let f : n ≡ t = omega arith in
    (subst (λ (k : ℕ). HaveValues w (rows ++ row ∷ []) (output_questions text k) out) f g, tt)
one_more w rows row out text t n [] (o ∷ outs) e h g = elim h [ ]
one_more w rows row out text t n (r ∷ left) [] e h g = elim h [ ]
one_more w rows row out text t n (r ∷ left) (o ∷ outs) e h g =
    (values_kept w rows (row ∷ []) (output_questions text t) o h.0, one_more w rows row out text (suc t) n left outs (omega arith) h.1 g)

no_rows_of : (c : ClockedProgram) (main : Option Text) (text : Text) → main ≡ Some text → IsSomeAnd main (λ text. Outputs (setting c) text [] [])
no_rows_of c None text e = absurd (cc)
no_rows_of c (Some other) text e = tt

-- before the first row
pub no_rows : (c : ClockedProgram) (text : Text) → main_text c.program ≡ Some text → GivesRows c [] []
no_rows c text e = no_rows_of c (main_text c.program) text e

more_rows_of : (c : ClockedProgram) (rows outs : List (List ℕ)) (row out : List ℕ) (main : Option Text) → IsSomeAnd main (λ text. Outputs (setting c) text rows outs) →
    IsSomeAnd main (λ text. HaveValues (setting c) (rows ++ row ∷ []) (output_questions text (length rows)) out) →
    IsSomeAnd main (λ text. Outputs (setting c) text (rows ++ row ∷ []) (outs ++ out ∷ []))
more_rows_of c rows outs row out None h g = h
more_rows_of c rows outs row out (Some text) h g = one_more (setting c) rows row out text 0 (length rows) rows outs (omega arith) h g

-- with one more row
pub more_rows : (c : ClockedProgram) (rows outs : List (List ℕ)) (row out : List ℕ) → GivesRows c rows outs → GivesLast c rows row out → GivesRows c (rows ++ row ∷ []) (outs ++ out ∷ [])
more_rows c rows outs row out h g = more_rows_of c rows outs row out (main_text c.program) h g

-- ---- the last of the rows

-- what two nodes of the same outputs give at the last of the rows
pub record LastOf (v w : Setting) (rs : List (List ℕ)) (a b : Text) (n : ℕ) (types : List TypeDec) (ds : List Decl) : Type 0 where
  pub out : List ℕ
  pub first : HaveValues v rs (output_questions a n) out
  pub second : HaveValues w rs (output_questions b n) out
  pub fits : RowFits types ds out

pub last_of : (v w : Setting) (rs : List (List ℕ)) (a b : Text) (types : List TypeDec) (ds : List Decl) (row : List ℕ) (left : List (List ℕ)) (t n : ℕ) (outs : List (List ℕ)) → n ≡ t + length left →
    OutputsFrom v rs a t (left ++ row ∷ []) outs → OutputsFrom w rs b t (left ++ row ∷ []) outs → RowsFit types ds outs → LastOf v w rs a b n types ds
last_of v w rs a b types ds row [] t n [] e h g f = elim h [ ]
last_of v w rs a b types ds row [] t n (o ∷ outs) e h g f =
    let at : t ≡ n = omega (arith, e) in
    record {
      out = o;
      first = subst (λ (k : ℕ). HaveValues v rs (output_questions a k) o) at h.0;
      second = subst (λ (k : ℕ). HaveValues w rs (output_questions b k) o) at g.0;
      fits = f.0;
    }
last_of v w rs a b types ds row (r ∷ left) t n [] e h g f = elim h [ ]
last_of v w rs a b types ds row (r ∷ left) t n (o ∷ outs) e h g f = last_of v w rs a b types ds row left (suc t) n outs (omega (arith, e)) h.1 g.1 f.1
