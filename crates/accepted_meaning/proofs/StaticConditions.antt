-- Conditions of parts name variables and numbers of one zone, and put any other variable on the base clock.
use Rattle.std.proofs.Common.{◌≡◌, ℕ, ◌+◌, ◌<◌, ◌≤◌, List, [], ◌∷◌, ◌++◌, length, length-append, refl, arith, Bool, true, false, if◌then◌else◌, ◌⊎◌, inl, inr}
use Rattle.std.specs.List.{AllByRecursion as Each, flat_map}
use Rattle.std.specs.Prelude.{is_some, ⊤}
use Rattle.std.specs.Option.{option_to_list}
use Rattle.hept_ast.specs.Texts.{Name, is_in}
use Rattle.hept_ast.specs.Parts.{Part, Block, Plain, Switch, Reset, Automaton, Transition, inside, below, inside_row, inside_branches, declaration, expressions_of}
use Rattle.hept_ast.specs.Clocks.{Term, Base, Of, Inner, On, Condition, equal, unless, read_clock, outer_read, term_of, reading, expression, operands, branches, on_base, defined, declared_on_base, part_conditions}
use Rattle.hept_ast.specs.declared.tree.Decl.{Decl}
use Rattle.hept_ast.specs.declared.tree.Expr.{Expr}
use Rattle.hept_ast.specs.declared.tree.MergeBranch.{MergeBranch}
use Rattle.hept_ast.specs.declared.tree.Form.{Form, out-Form, Const, Var, Last, Unary', Binary', If', Fby', Pre', Arrow', When', Merge', Call', AsyncCall', AsyncConst, Get', Row_of-Expr, end_of-Expr, more_of-Expr, Row_of-MergeBranch, end_of-MergeBranch, more_of-MergeBranch}
use Rattle.hept_ast.specs.declared.tree.Form.TheOpen.{Form-F}
use Rattle.hept_ast.proofs.Unfolded.{static}
use denote.Hole.Carrier
use Rattle.accepted_meaning.proofs.StaticScopes.{each_left, each_right}

-- the variable of a `when` or `merge` is one of these
abbrev pub StepIn : (Name → Type 0) → Form-F Form Expr MergeBranch → Type 0
StepIn U (Form-F.When a tag x) = U x
StepIn U (Form-F.Merge x bs) = U x
StepIn U _ = Unit {0}

-- all numbers from one up to another
abbrev pub Range : (ℕ → Type 0) → (low high : ℕ) → Type 0
Range Q low high = (m : ℕ) → low ≤ m → m < high → Q m

narrow : (Q : ℕ → Type 0) (a b c d : ℕ) → Range Q a b → a ≤ c → d ≤ b → Range Q c d
narrow Q a b c d h l r m low high = h m (omega (arith, l, low)) (omega (arith, r, high))

-- variables and numbers of a zone, and what steps may follow a clock there
module _ (P : Name → Type 0) (Q : ℕ → Type 0) (V : Term → Name → Type 0) where
  abbrev pub TermIn : Term → Type 0
  TermIn Base = ⊤
  TermIn (Of x) = P x
  TermIn (Inner n) = Q n
  TermIn (On t tag z) = TermIn t × V t z

  abbrev pub CondIn : Condition → Type 0
  CondIn c = (TermIn c.left × TermIn c.right) ⊎ ((x : Name) × (c.left ≡ Of x) × (c.right ≡ Base))

  abbrev pub Are : List Condition → Type 0
  Are cs = Each CondIn cs

  -- the variable of a `when` or `merge` may follow the clock that it has here
  abbrev pub Ok : List Name → Expr → Type 0
  Ok own e = StepIn (λ z. V (read_clock own z) z) (out-Form e.form)

  both : (cs ds : List Condition) → Are cs → Are ds → Are (cs ++ ds)
  both [] ds p q = q
  both (c ∷ cs) ds p q = (p.0, both cs ds p.1 q)

  flat : {X : Type 0} (f : X → List Condition) → ((x : X) → Are (f x)) → (xs : List X) → Are (flat_map f xs)
  flat f h [] = tt
  flat f h (x ∷ xs) = both (f x) (flat_map f xs) (h x) (flat f h xs)

  one : (p : ℕ) (l r : Term) → TermIn l → TermIn r → Are (equal p l r)
  one p l r hl hr = (inl (hl, hr), tt)

  pub outer : (p : ℕ) (x : Name) → Are (equal p (Of x) Base)
  outer p x = (inr (x, refl, refl), tt)

  pub interface : (ds : List Decl) → Are (flat_map (λ d. equal d.place.0 (Of d.name) Base) ds)
  interface ds = flat (λ (d : Decl). equal d.place.0 (Of d.name) Base) (λ d. outer d.place.0 d.name) ds

  module _ (own : List Name) (sub : (x : Name) → is_in x own ≡ true → P x) where
    read_tested : (x : Name) (t : Bool) → is_in x own ≡ t → TermIn (if t then Of x else Base)
    read_tested x true e = sub x e
    read_tested x false e = tt

    read_in : (x : Name) → TermIn (read_clock own x)
    read_in x = read_tested x (is_in x own) refl

    unless_own : (t : Bool) (cs : List Condition) → Are cs → Are (unless t cs)
    unless_own true cs h = tt
    unless_own false cs h = h

    outer_in : (p : ℕ) (x : Name) → Are (outer_read own p x)
    outer_in p x = unless_own (is_in x own) (equal p (Of x) Base) (outer p x)

    reading_in : (p n : ℕ) (x : Name) → Q n → Are (reading own p n x)
    reading_in p n x h = unless_own (is_in x own) (equal p (Of x) Base ++ equal p (Inner n) Base) (both (equal p (Of x) Base) (equal p (Inner n) Base) (outer p x) (one p (Inner n) Base h tt))

    own_tested : (x : Name) (m : ℕ) (t : Bool) → Q m → is_in x own ≡ t → TermIn (if t then Of x else Inner m)
    own_tested x m true h e = sub x e
    own_tested x m false h e = h

    term_in : (m : ℕ) (f : Form) → Q m → TermIn (term_of own m f)
    term_in m (Var x) h = own_tested x m (is_in x own) h refl
    term_in m (Last x) h = own_tested x m (is_in x own) h refl
    term_in m _ h = h

    mutual
      unfolding static out-Form Carrier.out

      expression_in : (n p : ℕ) (f : Form) → Range Q n (n + (1 + length (below f))) → StepIn (λ z. V (read_clock own z) z) (out-Form f) → Each (Ok own) (below f) → Are (expression own n p f)
      expression_in n p (Const k) h s u = tt
      expression_in n p (Var x) h s u = reading_in p n x (h n (omega arith) (omega arith))
      expression_in n p (Last x) h s u = reading_in p n x (h n (omega arith) (omega arith))
      expression_in n p (Unary' op z a) h s u = operands_in p (Inner n) (n + 1) a (h n (omega arith) (omega arith)) (narrow Q _ _ _ _ h (omega arith) (omega arith)) u
      expression_in n p (Binary' op z a t b) h s u =
          let l = length-append (inside_row a) (inside_row b) in
          let q = h n (omega arith) (omega arith) in
          both _ _ (operands_in p (Inner n) (n + 1) a q (narrow Q _ _ _ _ h (omega arith) (omega arith)) (each_left (Ok own) (inside_row a) (inside_row b) u))
          (operands_in p (Inner n) (n + 1 + length (inside_row a)) b q (narrow Q _ _ _ _ h (omega arith) (omega arith)) (each_right (Ok own) (inside_row a) (inside_row b) u))
      expression_in n p (If' z c t a w b) h s u =
          let l = length-append (inside_row c ++ inside_row a) (inside_row b) in
          let m = length-append (inside_row c) (inside_row a) in
          let q = h n (omega arith) (omega arith) in
          let ca = each_left (Ok own) (inside_row c ++ inside_row a) (inside_row b) u in
          both _ _ (both _ _ (operands_in p (Inner n) (n + 1) c q (narrow Q _ _ _ _ h (omega arith) (omega arith)) (each_left (Ok own) (inside_row c) (inside_row a) ca))
          (operands_in p (Inner n) (n + 1 + length (inside_row c)) a q (narrow Q _ _ _ _ h (omega arith) (omega arith)) (each_right (Ok own) (inside_row c) (inside_row a) ca)))
          (operands_in p (Inner n) (n + 1 + length (inside_row c) + length (inside_row a)) b q (narrow Q _ _ _ _ h (omega arith) (omega arith)) (each_right (Ok own) (inside_row c ++ inside_row a) (inside_row b) u))
      expression_in n p (Fby' z a t b) h s u =
          let l = length-append (inside_row a) (inside_row b) in
          let q = h n (omega arith) (omega arith) in
          both _ _ (operands_in p (Inner n) (n + 1) a q (narrow Q _ _ _ _ h (omega arith) (omega arith)) (each_left (Ok own) (inside_row a) (inside_row b) u))
          (operands_in p (Inner n) (n + 1 + length (inside_row a)) b q (narrow Q _ _ _ _ h (omega arith) (omega arith)) (each_right (Ok own) (inside_row a) (inside_row b) u))
      expression_in n p (Pre' z a) h s u = operands_in p (Inner n) (n + 1) a (h n (omega arith) (omega arith)) (narrow Q _ _ _ _ h (omega arith) (omega arith)) u
      expression_in n p (Arrow' z a t b) h s u =
          let l = length-append (inside_row a) (inside_row b) in
          let q = h n (omega arith) (omega arith) in
          both _ _ (operands_in p (Inner n) (n + 1) a q (narrow Q _ _ _ _ h (omega arith) (omega arith)) (each_left (Ok own) (inside_row a) (inside_row b) u))
          (operands_in p (Inner n) (n + 1 + length (inside_row a)) b q (narrow Q _ _ _ _ h (omega arith) (omega arith)) (each_right (Ok own) (inside_row a) (inside_row b) u))
      expression_in n p (When' z a tag x) h s u =
          let d = read_in x in
          both _ _ (both _ _ (operands_in p (read_clock own x) (n + 1) a d (narrow Q _ _ _ _ h (omega arith) (omega arith)) u)
          (one p (Inner n) (On (read_clock own x) tag x) (h n (omega arith) (omega arith)) (d, s))) (outer_in p x)
      expression_in n p (Merge' x z bs) h s u =
          let d = read_in x in
          both (equal p (Inner n) (read_clock own x) ++ outer_read own p x) (branches own p x (n + 1) bs)
          (both (equal p (Inner n) (read_clock own x)) (outer_read own p x) (one p (Inner n) (read_clock own x) (h n (omega arith) (omega arith)) d) (outer_in p x))
          (branches_in p x (n + 1) bs s (narrow Q _ _ _ _ h (omega arith) (omega arith)) u)
      expression_in n p (Call' f z args) h s u = operands_in p (Inner n) (n + 1) args (h n (omega arith) (omega arith)) (narrow Q _ _ _ _ h (omega arith) (omega arith)) u
      expression_in n p (AsyncCall' q f z args) h s u = operands_in p (Inner n) (n + 1) args (h n (omega arith) (omega arith)) (narrow Q _ _ _ _ h (omega arith) (omega arith)) u
      expression_in n p (AsyncConst k) h s u = tt
      expression_in n p (Get' z a) h s u = operands_in p (Inner n) (n + 1) a (h n (omega arith) (omega arith)) (narrow Q _ _ _ _ h (omega arith) (omega arith)) u

      operands_in : (p : ℕ) (on : Term) (m : ℕ) {k : _} (row : Row_of-Expr k) → TermIn on → Range Q m (m + length (inside_row row)) → Each (Ok own) (inside_row row) → Are (operands own p on m row)
      operands_in p on m end_of-Expr d h u = tt
      operands_in p on m (more_of-Expr q form rest) d h u =
          let l = length-append (below form) (inside_row rest) in
          let t = term_in m form (h m (omega arith) (omega arith)) in
          both (equal p (term_of own m form) on ++ expression own m q.0 form) (operands own p on (m + 1 + length (below form)) rest)
          (both (equal p (term_of own m form) on) (expression own m q.0 form) (one p (term_of own m form) on t d)
          (expression_in m q.0 form (narrow Q _ _ _ _ h (omega arith) (omega arith)) u.0 (each_left (Ok own) (below form) (inside_row rest) u.1)))
          (operands_in p on (m + 1 + length (below form)) rest d (narrow Q _ _ _ _ h (omega arith) (omega arith)) (each_right (Ok own) (below form) (inside_row rest) u.1))

      branches_in : (p : ℕ) (x : Name) (m : ℕ) {k : _} (row : Row_of-MergeBranch k) → V (read_clock own x) x → Range Q m (m + length (inside_branches row)) → Each (Ok own) (inside_branches row) → Are (branches own p x m row)
      branches_in p x m end_of-MergeBranch s h u = tt
      branches_in p x m (more_of-MergeBranch r tag q form rest) s h u =
          let l = length-append (below form) (inside_branches rest) in
          let t = term_in m form (h m (omega arith) (omega arith)) in
          both (equal p (term_of own m form) (On (read_clock own x) tag x) ++ expression own m q.0 form) (branches own p x (m + 1 + length (below form)) rest)
          (both (equal p (term_of own m form) (On (read_clock own x) tag x)) (expression own m q.0 form) (one p (term_of own m form) (On (read_clock own x) tag x) t (read_in x, s))
          (expression_in m q.0 form (narrow Q _ _ _ _ h (omega arith) (omega arith)) u.0 (each_left (Ok own) (below form) (inside_branches rest) u.1)))
          (branches_in p x (m + 1 + length (below form)) rest s (narrow Q _ _ _ _ h (omega arith) (omega arith)) (each_right (Ok own) (below form) (inside_branches rest) u.1))

    based_in : (n : ℕ) (e : Expr) → Range Q n (n + length (inside e ++ [])) → Each (Ok own) (inside e ++ []) → Are (on_base own n e)
    based_in n e h u =
        let l = length-append (inside e) [] in
        let v = each_left (Ok own) (inside e) [] u in
        let t = term_in n e.form (h n (omega arith) (omega arith)) in
        both (equal e.place.0 (term_of own n e.form) Base) (expression own n e.place.0 e.form) (one e.place.0 (term_of own n e.form) Base t tt)
        (expression_in n e.place.0 e.form (narrow Q _ _ _ _ h (omega arith) (omega arith)) v.0 v.1)

    last_in : (d : Decl) (t : Bool) → Are (if t then equal d.place.0 (Of d.name) Base else [])
    last_in d true = outer d.place.0 d.name
    last_in d false = tt

    set_in : (x : Name) (seen : List Decl) → Are (flat_map (λ (d : Decl). equal d.place.0 (Of x) Base) (option_to_list (declaration seen x)))
    set_in x seen = flat (λ (d : Decl). equal d.place.0 (Of x) Base) (λ d. outer d.place.0 x) (option_to_list (declaration seen x))

    defined_tested : (p : ℕ) (right : Term) (x : Name) (t : Bool) → is_in x own ≡ t → TermIn right → Are (if t then equal p (Of x) right else equal p (Of x) Base ++ equal p right Base)
    defined_tested p right x true e d = one p (Of x) right (sub x e) d
    defined_tested p right x false e d = both (equal p (Of x) Base) (equal p right Base) (outer p x) (one p right Base d tt)

    -- the conditions of a part whose own variables, numbers and steps lie in the zone
    pub part_in : (seen : List Decl) (n : ℕ) (q : Part) → Range Q n (n + length (flat_map inside (expressions_of q))) → Each (Ok own) (flat_map inside (expressions_of q)) → Are (part_conditions own seen n q)
    part_in seen n (Block ds equations) h u = flat (λ (d : Decl). if is_some d.init then equal d.place.0 (Of d.name) Base else []) (λ d. last_in d (is_some d.init)) ds
    part_in seen n (Plain p left right) h u =
        let l = length-append (inside right) [] in
        let v = each_left (Ok own) (inside right) [] u in
        let t = term_in n right.form (h n (omega arith) (omega arith)) in
        both (flat_map (defined own p (term_of own n right.form)) left) (expression own n right.place.0 right.form)
        (flat (defined own p (term_of own n right.form)) (λ x. defined_tested p (term_of own n right.form) x (is_in x own) refl t) left)
        (expression_in n right.place.0 right.form (narrow Q _ _ _ _ h (omega arith) (omega arith)) v.0 v.1)
    part_in seen n (Switch p on cases) h u =
        both (declared_on_base own seen (flat_map (λ c. c.sets) cases)) (on_base own n on)
        (flat (λ x. flat_map (λ (d : Decl). equal d.place.0 (Of x) Base) (option_to_list (declaration seen x))) (λ x. set_in x seen) (flat_map (λ c. c.sets) cases)) (based_in n on h u)
    part_in seen n (Reset p every sets) h u = based_in n every h u
    part_in seen n (Automaton p states) h u = flat (λ x. flat_map (λ (d : Decl). equal d.place.0 (Of x) Base) (option_to_list (declaration seen x))) (λ x. set_in x seen) (flat_map (λ c. c.sets) states)
    part_in seen n (Transition strong states e) h u = based_in n e.condition h u
