-- Rows of outputs, one value and one row at a time.
use Rattle.std.proofs.Common.{◌≡◌, ℕ, zero, suc, ◌+◌, ◌<◌, ◌≤◌, Bool, true, cond, List, [], ◌∷◌, ◌++◌, Some, slice_get, get_or, length, map, take, sym, ap, subst, ◌∙◌, arith}
use Rattle.std.proofs.lemmas.List.{length-take-le, take_all, take_more}
use Rattle.std.proofs.lemmas.Option.{get_or_from_slice_get}
use Rattle.hept_ast.specs.Texts.{Name, names}
use Rattle.hept_ast.specs.Scopes.{Text, Top, Written, output_decls}
use Rattle.hept_ast.specs.Meaning.{Question, Value, Variable, Setting}
use Rattle.hept_ast.specs.Outputs.{HaveValues, Knows, Outputs, OutputsFrom, output_questions}
use Rattle.hept_ast.specs.Stages.{ClockedProgram}
use Rattle.hept_ast.specs.declared.tree.Decl.{Decl}
use Rattle.hept_ast.specs.declared.tree.Node.{Node}
use Rattle.answer_table.specs.declared.answers.Answers.{Answers}
use Rattle.answer_table.specs.Things.{setting_of}
use Rattle.answer_table.specs.Tables.{IsSameRun, setting_in}

-- a variable of the chosen node has this value
abbrev pub Has : ClockedProgram → (rows : List (List ℕ)) → (top : ℕ) → Name → (t : ℕ) → (v : ℕ) → Type 0
Has c rows top x t v = (node : Node) → slice_get c.program.nodes top ≡ Some node → Knows (setting_of c) rows (Variable x (Top (Written top node)) t) (Value v)

-- what is known of a run is known of the same run
pub has_same : (s u : Answers) (x : Name) (t v : ℕ) → IsSameRun s u → Has u.accepted.now u.rows.now u.top x t v → Has s.accepted.now s.rows.now s.top x t v
has_same s u x t v same h =
    subst (λ (top : ℕ). Has s.accepted.now s.rows.now top x t v) same.top
    (subst (λ (rows : List (List ℕ)). Has s.accepted.now rows u.top x t v) (ap (λ r. r.now) same.rows)
    (subst (λ (c : ClockedProgram). Has c u.rows.now u.top x t v) (ap (λ r. r.now) same.accepted) h))

values_more : (w : Setting) (rows : List (List ℕ)) (f : Name → Question) (ds : List Decl) (n : ℕ) (d : Decl) (vs : List ℕ) (v : ℕ) → n < length ds → d ≡ get_or ds n d →
    HaveValues w rows (take n (map f (names ds))) vs → Knows w rows (f d.name) (Value v) → HaveValues w rows (take (suc n) (map f (names ds))) (vs ++ v ∷ [])
values_more w rows f [] n d vs v less is h k = absurd (omega (arith, less))
values_more w rows f (e ∷ ds) zero d [] v less is h k = (subst (λ (c : Decl). Knows w rows (f c.name) (Value v)) is k, tt)
values_more w rows f (e ∷ ds) zero d (u ∷ us) v less is h k = elim h [ ]
values_more w rows f (e ∷ ds) (suc n) d [] v less is h k = elim h [ ]
values_more w rows f (e ∷ ds) (suc n) d (u ∷ us) v less is h k = (h.0, values_more w rows f ds n d us v (omega (arith, less)) is h.1 k)

-- one output more
pub row_more : (w : Setting) (rows : List (List ℕ)) (text : Text) (t n : ℕ) (d : Decl) (vs : List ℕ) (v : ℕ) → n < length (output_decls text) → d ≡ get_or (output_decls text) n d →
    HaveValues w rows (take n (output_questions text t)) vs → Knows w rows (Variable d.name (Top text) t) (Value v) → HaveValues w rows (take (n + 1) (output_questions text t)) (vs ++ v ∷ [])
row_more w rows text t n d vs v less is h k =
    let e : suc n ≡ n + 1 = omega arith in
    subst (λ (m : ℕ). HaveValues w rows (take m (output_questions text t)) (vs ++ v ∷ [])) e
    (values_more w rows (λ x. Variable x (Top text) t) (output_decls text) n d vs v less is h k)

-- one row more
pub rows_more : (w : Setting) (rows : List (List ℕ)) (text : Text) (t : ℕ) (left outs : List (List ℕ)) (row out : List ℕ) →
    OutputsFrom w rows text t left outs → HaveValues w rows (output_questions text (t + length left)) out → OutputsFrom w rows text t (left ++ row ∷ []) (outs ++ out ∷ [])
rows_more w rows text t [] [] row out h k = (subst (λ (n : ℕ). HaveValues w rows (output_questions text n) out) (omega arith) k, tt)
rows_more w rows text t [] (o ∷ outs) row out h k = elim h [ ]
rows_more w rows text t (r ∷ left) [] row out h k = elim h [ ]
rows_more w rows text t (r ∷ left) (o ∷ outs) row out h k =
    (h.0, rows_more w rows text (suc t) left outs row out h.1 (subst (λ (n : ℕ). HaveValues w rows (output_questions text n) out) (omega arith) k))

-- what a push that went well leaves
pub pushed : {X : Type 0} (old new : List X) (x : X) (ok : Bool) → new ≡ cond ok (old ++ x ∷ []) old → ok ≡ true → new ≡ old ++ x ∷ []
pushed {X} old new x ok is went = is ∙ ap (λ (b : Bool). cond b (old ++ x ∷ []) old) went

-- one output more in a loop over the outputs of the chosen node
pub row_step : (s u : Answers) (node : Node) (ds : List Decl) (t n : ℕ) (d : Decl) (old new : List ℕ) (v : ℕ) → IsSameRun s u → slice_get s.accepted.now.program.nodes s.top ≡ Some node →
    ds ≡ node.outputs → n < length ds → d ≡ get_or ds n d → Has u.accepted.now u.rows.now u.top d.name t v → new ≡ old ++ v ∷ [] →
    HaveValues (setting_in s) s.rows.now (take n (output_questions (Written s.top node) t)) old →
    HaveValues (setting_in s) s.rows.now (take (n + 1) (output_questions (Written s.top node) t)) new
row_step s u node ds t n d old new v same chosen are less is has more h =
    subst (λ (vs : List ℕ). HaveValues (setting_in s) s.rows.now (take (n + 1) (output_questions (Written s.top node) t)) vs) (sym more)
    (row_more (setting_in s) s.rows.now (Written s.top node) t n d old v
    (subst (λ (es : List Decl). n < length es) are less) (subst (λ (es : List Decl). d ≡ get_or es n d) are is) h
    (has_same s u d.name t v same has node chosen))

-- two steps of the same run
pub same_through : (s u v : Answers) → IsSameRun s u → IsSameRun u v → IsSameRun s v
same_through s u v h k = record { accepted = k.accepted ∙ h.accepted; top = k.top ∙ h.top; rows = k.rows ∙ h.rows }

-- what is known of a row is known of the same run
values_same : (s u : Answers) (node : Node) (t : ℕ) (row : List ℕ) → IsSameRun s u →
    HaveValues (setting_in u) u.rows.now (output_questions (Written u.top node) t) row → HaveValues (setting_in s) s.rows.now (output_questions (Written s.top node) t) row
values_same s u node t row same h =
    subst (λ (top : ℕ). HaveValues (setting_in s) s.rows.now (output_questions (Written top node) t) row) same.top
    (subst (λ (rows : List (List ℕ)). HaveValues (setting_in s) rows (output_questions (Written u.top node) t) row) (ap (λ r. r.now) same.rows)
    (subst (λ (c : ClockedProgram). HaveValues (setting_of c) u.rows.now (output_questions (Written u.top node) t) row) (ap (λ r. r.now) same.accepted) h))

-- one row more in a loop over the rows
pub rows_step : (s u : Answers) (node : Node) (t : ℕ) (outs new : List (List ℕ)) (row : List ℕ) → IsSameRun s u → t < length s.rows.now →
    HaveValues (setting_in u) u.rows.now (output_questions (Written u.top node) t) row → new ≡ outs ++ row ∷ [] →
    OutputsFrom (setting_in s) s.rows.now (Written s.top node) 0 (take t s.rows.now) outs →
    OutputsFrom (setting_in s) s.rows.now (Written s.top node) 0 (take (t + 1) s.rows.now) new
rows_step s u node t outs new row same less values more h =
    let e : 0 + length (take t s.rows.now) ≡ t = omega (arith, length-take-le t s.rows.now (omega arith)) in
    subst (λ (os : List (List ℕ)). OutputsFrom (setting_in s) s.rows.now (Written s.top node) 0 (take (t + 1) s.rows.now) os) (sym more)
    (subst (λ (left : List (List ℕ)). OutputsFrom (setting_in s) s.rows.now (Written s.top node) 0 left (outs ++ row ∷ [])) (sym (take_more s.rows.now t [] less))
    (rows_more (setting_in s) s.rows.now (Written s.top node) 0 (take t s.rows.now) outs (get_or s.rows.now t []) row h
    (subst (λ (n : ℕ). HaveValues (setting_in s) s.rows.now (output_questions (Written s.top node) n) row) (sym e) (values_same s u node t row same values))))

-- after the last row
pub rows_end : (w : Setting) (rows outs : List (List ℕ)) (text : Text) (t : ℕ) → length rows ≤ t → OutputsFrom w rows text 0 (take t rows) outs → Outputs w text rows outs
rows_end w rows outs text t all h = subst (λ (left : List (List ℕ)). OutputsFrom w rows text 0 left outs) (take_all t rows all) h

-- what stands at a position of the nodes of a program is the node there
pub same_node : (nodes these : List Node) (i : ℕ) (node other : Node) → these ≡ nodes → node ≡ get_or these i node → slice_get nodes i ≡ Some other → node ≡ other
same_node nodes these i node other are is found =
    is ∙ ap (λ (ns : List Node). get_or ns i node) are ∙ get_or_from_slice_get nodes i other node found
