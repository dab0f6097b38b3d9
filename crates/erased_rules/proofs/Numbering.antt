-- The numbered conditions of an expression say that it stands on the clock of its term.
use Rattle.std.proofs.Common.{◌≡◌, ℕ, ◌+◌, suc, Bool, true, false, List, [], ◌∷◌, ◌++◌, length, refl, sym, ap, ◌∙◌, arith}
use Rattle.std.specs.Prelude.{if◌then◌else◌}
use Rattle.std.proofs.lemmas.List.{length-append}
use Rattle.hept_ast.specs.Texts.{Name, is_in}
use Rattle.hept_ast.specs.Scopes.{Clock}
use Rattle.hept_ast.specs.Parts.{below, inside_row, inside_branches}
use Rattle.hept_ast.specs.Clocks.{Term, Base, Of, Inner, On, Assignment, clock, Meets, equal, unless, read_clock, outer_read, term_of, expression, operands, branches}
use Rattle.hept_ast.specs.declared.tree.Tag.{Tag}
use Rattle.hept_ast.specs.declared.tree.Form.{Form, Const, Var, Last, Unary', Binary', If', Fby', Pre', Arrow', When', Merge', Call', AsyncCall', AsyncConst, Get', Row_of-Expr, end_of-Expr, more_of-Expr, Row_of-MergeBranch, end_of-MergeBranch, more_of-MergeBranch}
use Rattle.hept_ast.proofs.Unfolded.{static}
use Rattle.erased_rules.proofs.Standing.{Reading, Outer, read, sampled, Stands, Row_stands, Branches_stand, under, row_under, branches_under, meets_left, meets_right, meets_both, Given, given_left, given_right}

-- ---- as many clocks as expressions

module _ (own : List Name) (c : Name → Clock) where
  two_lengths : {A B : Type 0} (ks ls : List A) (xs ys : List B) → length ks ≡ length xs → length ls ≡ length ys → length (ks ++ ls) ≡ length (xs ++ ys)
  two_lengths ks ls xs ys e h = let a = length-append ks ls in let b = length-append xs ys in cc

  mutual
    unfolding static under row_under branches_under

    pub under_length : (k : Clock) (f : Form) → length (under own c k f) ≡ length (below f)
    under_length k (Const q) = refl
    under_length k (Var x) = refl
    under_length k (Last x) = refl
    under_length k (Unary' op s a) = row_length k a
    under_length k (Binary' op s a t b) = two_lengths (row_under own c k a) (row_under own c k b) (inside_row a) (inside_row b) (row_length k a) (row_length k b)
    under_length k (If' s d t a u b) =
        two_lengths (row_under own c k d ++ row_under own c k a) (row_under own c k b) (inside_row d ++ inside_row a) (inside_row b)
        (two_lengths (row_under own c k d) (row_under own c k a) (inside_row d) (inside_row a) (row_length k d) (row_length k a)) (row_length k b)
    under_length k (Fby' s a t b) = two_lengths (row_under own c k a) (row_under own c k b) (inside_row a) (inside_row b) (row_length k a) (row_length k b)
    under_length k (Pre' s a) = row_length k a
    under_length k (Arrow' s a t b) = two_lengths (row_under own c k a) (row_under own c k b) (inside_row a) (inside_row b) (row_length k a) (row_length k b)
    under_length k (When' s a tag x) = row_length (read own c x) a
    under_length k (Merge' x s bs) = branches_length x bs
    under_length k (Call' f s args) = row_length k args
    under_length k (AsyncCall' q f s args) = row_length k args
    under_length k (AsyncConst q) = refl
    under_length k (Get' s a) = row_length k a

    pub row_length : (k : Clock) → {n : _} → (row : Row_of-Expr n) → length (row_under own c k row) ≡ length (inside_row row)
    row_length k end_of-Expr = refl
    row_length k (more_of-Expr p form rest) = ap suc (two_lengths (under own c k form) (row_under own c k rest) (below form) (inside_row rest) (under_length k form) (row_length k rest))

    pub branches_length : (x : Name) → {n : _} → (row : Row_of-MergeBranch n) → length (branches_under own c x row) ≡ length (inside_branches row)
    branches_length x end_of-MergeBranch = refl
    branches_length x (more_of-MergeBranch p tag q form rest) =
        ap suc (two_lengths (under own c (sampled own c tag x) form) (branches_under own c x rest) (below form) (inside_branches rest) (under_length (sampled own c tag x) form) (branches_length x rest))

-- ---- from the conditions

module _ (own : List Name) (c : Name → Clock) (e : ℕ → Clock) where
  abbrev a : Assignment
  a = record { variable = c; expression = e }

  read_is : (x : Name) → clock a (read_clock own x) ≡ read own c x
  read_is x = go (is_in x own)
    where
      go : (b : Bool) → clock a (if b then Of x else Base) ≡ (if b then c x else [])
      go true = refl
      go false = refl

  sampled_is : (tag : Tag) (x : Name) → clock a (On (read_clock own x) tag x) ≡ sampled own c tag x
  sampled_is tag x = ap (λ (k : Clock). k ++ record { tag = tag; name = x } ∷ []) (read_is x)

  outer_to : (b : Bool) (p : ℕ) (x : Name) → Meets a (unless b (equal p (Of x) Base)) → Outer b (c x)
  outer_to true p x h = tt
  outer_to false p x h = h.0

  outer_from : (b : Bool) (p : ℕ) (x : Name) → Outer b (c x) → Meets a (unless b (equal p (Of x) Base))
  outer_from true p x h = tt
  outer_from false p x h = (h, tt)

  reading_to : (b : Bool) (p n : ℕ) (x : Name) (k : Clock) → clock a (if b then Of x else Inner n) ≡ k → Meets a (unless b (equal p (Of x) Base ++ equal p (Inner n) Base)) → Reading b (c x) k
  reading_to true p n x k i h = i
  reading_to false p n x k i h = (h.0, sym i ∙ h.1.0)

  reading_from : (b : Bool) (p n : ℕ) (x : Name) (k : Clock) → e n ≡ k → Reading b (c x) k → (clock a (if b then Of x else Inner n) ≡ k) × Meets a (unless b (equal p (Of x) Base ++ equal p (Inner n) Base))
  reading_from true p n x k i h = (h, tt)
  reading_from false p n x k i h = (i, (h.0, (i ∙ h.1, tt)))

  mutual
    unfolding static Stands Row_stands Branches_stand

    pub stands_if : (n p : ℕ) (k : Clock) (f : Form) → clock a (term_of own n f) ≡ k → Meets a (expression own n p f) → Stands own c k f
    stands_if n p k (Const q) i h = tt
    stands_if n p k (Var x) i h = reading_to (is_in x own) p n x k i h
    stands_if n p k (Last x) i h = reading_to (is_in x own) p n x k i h
    stands_if n p k (Unary' op s r) i h = row_if p (Inner n) (n + 1) k i r h
    stands_if n p k (Binary' op s r t u) i h =
        let cs = operands own p (Inner n) (n + 1) r in
        let ds = operands own p (Inner n) (n + 1 + length (inside_row r)) u in
        (row_if p (Inner n) (n + 1) k i r (meets_left a cs ds h), row_if p (Inner n) (n + 1 + length (inside_row r)) k i u (meets_right a cs ds h))
    stands_if n p k (If' s d t r v u) i h =
        let bs = operands own p (Inner n) (n + 1) d in
        let cs = operands own p (Inner n) (n + 1 + length (inside_row d)) r in
        let ds = operands own p (Inner n) (n + 1 + length (inside_row d) + length (inside_row r)) u in
        let first = meets_left a (bs ++ cs) ds h in (
          row_if p (Inner n) (n + 1) k i d (meets_left a bs cs first),
          row_if p (Inner n) (n + 1 + length (inside_row d)) k i r (meets_right a bs cs first),
          row_if p (Inner n) (n + 1 + length (inside_row d) + length (inside_row r)) k i u (meets_right a (bs ++ cs) ds h),
        )
    stands_if n p k (Fby' s r t u) i h =
        let cs = operands own p (Inner n) (n + 1) r in
        let ds = operands own p (Inner n) (n + 1 + length (inside_row r)) u in
        (row_if p (Inner n) (n + 1) k i r (meets_left a cs ds h), row_if p (Inner n) (n + 1 + length (inside_row r)) k i u (meets_right a cs ds h))
    stands_if n p k (Pre' s r) i h = row_if p (Inner n) (n + 1) k i r h
    stands_if n p k (Arrow' s r t u) i h =
        let cs = operands own p (Inner n) (n + 1) r in
        let ds = operands own p (Inner n) (n + 1 + length (inside_row r)) u in
        (row_if p (Inner n) (n + 1) k i r (meets_left a cs ds h), row_if p (Inner n) (n + 1 + length (inside_row r)) k i u (meets_right a cs ds h))
    stands_if n p k (When' s r tag x) i h =
        let cs = operands own p (read_clock own x) (n + 1) r in
        let ds = equal p (Inner n) (On (read_clock own x) tag x) in
        let es = outer_read own p x in
        let first = meets_left a (cs ++ ds) es h in (
          row_if p (read_clock own x) (n + 1) (read own c x) (read_is x) r (meets_left a cs ds first),
          sym i ∙ (meets_right a cs ds first).0 ∙ sampled_is tag x,
          outer_to (is_in x own) p x (meets_right a (cs ++ ds) es h),
        )
    stands_if n p k (Merge' x s bs) i h =
        let es = outer_read own p x in
        let ds = branches own p x (n + 1) bs in
        (sym i ∙ h.0 ∙ read_is x, outer_to (is_in x own) p x (meets_left a es ds h.1), branches_if p x (n + 1) bs (meets_right a es ds h.1))
    stands_if n p k (Call' f s args) i h = row_if p (Inner n) (n + 1) k i args h
    stands_if n p k (AsyncCall' q f s args) i h = row_if p (Inner n) (n + 1) k i args h
    stands_if n p k (AsyncConst q) i h = tt
    stands_if n p k (Get' s r) i h = row_if p (Inner n) (n + 1) k i r h

    pub row_if : (p : ℕ) (on : Term) (m : ℕ) (k : Clock) → clock a on ≡ k → {j : _} → (row : Row_of-Expr j) → Meets a (operands own p on m row) → Row_stands own c k row
    row_if p on m k i end_of-Expr h = tt
    row_if p on m k i (more_of-Expr q form rest) h =
        let cs = expression own m q.0 form in
        let ds = operands own p on (m + 1 + length (below form)) rest in
        (stands_if m q.0 k form (h.0 ∙ i) (meets_left a cs ds h.1), row_if p on (m + 1 + length (below form)) k i rest (meets_right a cs ds h.1))

    pub branches_if : (p : ℕ) (x : Name) (m : ℕ) → {j : _} → (row : Row_of-MergeBranch j) → Meets a (branches own p x m row) → Branches_stand own c x row
    branches_if p x m end_of-MergeBranch h = tt
    branches_if p x m (more_of-MergeBranch r tag q form rest) h =
        let cs = expression own m q.0 form in
        let ds = branches own p x (m + 1 + length (below form)) rest in
        (stands_if m q.0 (sampled own c tag x) form (h.0 ∙ sampled_is tag x) (meets_left a cs ds h.1), branches_if p x (m + 1 + length (below form)) rest (meets_right a cs ds h.1))

  -- ---- to the conditions

  mutual
    unfolding static Stands Row_stands Branches_stand under row_under branches_under

    pub if_stands : (n p : ℕ) (k : Clock) (f : Form) → e n ≡ k → Given e (n + 1) (under own c k f) → Stands own c k f → (clock a (term_of own n f) ≡ k) × Meets a (expression own n p f)
    if_stands n p k (Const q) i g h = (i, tt)
    if_stands n p k (Var x) i g h = reading_from (is_in x own) p n x k i h
    if_stands n p k (Last x) i g h = reading_from (is_in x own) p n x k i h
    if_stands n p k (Unary' op s r) i g h = (i, if_row p (Inner n) (n + 1) k i r g h)
    if_stands n p k (Binary' op s r t u) i g h =
        let ks = row_under own c k r in
        let ls = row_under own c k u in
        let m = n + 1 + length (inside_row r) in
        let l : n + 1 + length ks ≡ m = ap (λ (j : ℕ). n + 1 + j) (row_length own c k r) in
        (i, meets_both a (operands own p (Inner n) (n + 1) r) (operands own p (Inner n) m u) (if_row p (Inner n) (n + 1) k i r (given_left e (n + 1) ks ls g) h.0) (if_row p (Inner n) m k i u (given_right e (n + 1) m ks ls l g) h.1))
    if_stands n p k (If' s d t r v u) i g h =
        let js = row_under own c k d in
        let ks = row_under own c k r in
        let ls = row_under own c k u in
        let m = n + 1 + length (inside_row d) in
        let o = m + length (inside_row r) in
        let l : n + 1 + length js ≡ m = ap (λ (j : ℕ). n + 1 + j) (row_length own c k d) in
        let l' : m + length ks ≡ o = ap (λ (j : ℕ). m + j) (row_length own c k r) in
        let l'' : n + 1 + length (js ++ ks) ≡ o = omega (arith, length-append js ks) in
        let first = given_left e (n + 1) (js ++ ks) ls g in (
          i,
          meets_both a (operands own p (Inner n) (n + 1) d ++ operands own p (Inner n) m r) (operands own p (Inner n) o u)
              (meets_both a (operands own p (Inner n) (n + 1) d) (operands own p (Inner n) m r) (if_row p (Inner n) (n + 1) k i d (given_left e (n + 1) js ks first) h.0)
              (if_row p (Inner n) m k i r (given_right e (n + 1) m js ks l first) h.1)) (if_row p (Inner n) o k i u (given_right e (n + 1) o (js ++ ks) ls l'' g) h.2),
        )
    if_stands n p k (Fby' s r t u) i g h =
        let ks = row_under own c k r in
        let ls = row_under own c k u in
        let m = n + 1 + length (inside_row r) in
        let l : n + 1 + length ks ≡ m = ap (λ (j : ℕ). n + 1 + j) (row_length own c k r) in
        (i, meets_both a (operands own p (Inner n) (n + 1) r) (operands own p (Inner n) m u) (if_row p (Inner n) (n + 1) k i r (given_left e (n + 1) ks ls g) h.0) (if_row p (Inner n) m k i u (given_right e (n + 1) m ks ls l g) h.1))
    if_stands n p k (Pre' s r) i g h = (i, if_row p (Inner n) (n + 1) k i r g h)
    if_stands n p k (Arrow' s r t u) i g h =
        let ks = row_under own c k r in
        let ls = row_under own c k u in
        let m = n + 1 + length (inside_row r) in
        let l : n + 1 + length ks ≡ m = ap (λ (j : ℕ). n + 1 + j) (row_length own c k r) in
        (i, meets_both a (operands own p (Inner n) (n + 1) r) (operands own p (Inner n) m u) (if_row p (Inner n) (n + 1) k i r (given_left e (n + 1) ks ls g) h.0) (if_row p (Inner n) m k i u (given_right e (n + 1) m ks ls l g) h.1))
    if_stands n p k (When' s r tag x) i g h =
        let cs = operands own p (read_clock own x) (n + 1) r in
        let ds = equal p (Inner n) (On (read_clock own x) tag x) in (
          i,
          meets_both a (cs ++ ds) (outer_read own p x)
              (meets_both a cs ds (if_row p (read_clock own x) (n + 1) (read own c x) (read_is x) r g h.0) (i ∙ h.1 ∙ sym (sampled_is tag x), tt)) (outer_from (is_in x own) p x h.2),
        )
    if_stands n p k (Merge' x s bs) i g h =
        (i, (i ∙ h.0 ∙ sym (read_is x), meets_both a (outer_read own p x) (branches own p x (n + 1) bs) (outer_from (is_in x own) p x h.1) (if_branches p x (n + 1) bs g h.2)))
    if_stands n p k (Call' f s args) i g h = (i, if_row p (Inner n) (n + 1) k i args g h)
    if_stands n p k (AsyncCall' q f s args) i g h = (i, if_row p (Inner n) (n + 1) k i args g h)
    if_stands n p k (AsyncConst q) i g h = (i, tt)
    if_stands n p k (Get' s r) i g h = (i, if_row p (Inner n) (n + 1) k i r g h)

    pub if_row : (p : ℕ) (on : Term) (m : ℕ) (k : Clock) → clock a on ≡ k → {j : _} → (row : Row_of-Expr j) → Given e m (row_under own c k row) → Row_stands own c k row → Meets a (operands own p on m row)
    if_row p on m k i end_of-Expr g h = tt
    if_row p on m k i (more_of-Expr q form rest) g h =
        let ks = under own c k form in
        let ls = row_under own c k rest in
        let o = m + 1 + length (below form) in
        let l : m + 1 + length ks ≡ o = ap (λ (j : ℕ). m + 1 + j) (under_length own c k form) in
        let first = if_stands m q.0 k form g.0 (given_left e (m + 1) ks ls g.1) h.0 in
        (first.0 ∙ sym i, meets_both a (expression own m q.0 form) (operands own p on o rest) first.1 (if_row p on o k i rest (given_right e (m + 1) o ks ls l g.1) h.1))

    pub if_branches : (p : ℕ) (x : Name) (m : ℕ) → {j : _} → (row : Row_of-MergeBranch j) → Given e m (branches_under own c x row) → Branches_stand own c x row → Meets a (branches own p x m row)
    if_branches p x m end_of-MergeBranch g h = tt
    if_branches p x m (more_of-MergeBranch r tag q form rest) g h =
        let k = sampled own c tag x in
        let ks = under own c k form in
        let ls = branches_under own c x rest in
        let o = m + 1 + length (below form) in
        let l : m + 1 + length ks ≡ o = ap (λ (j : ℕ). m + 1 + j) (under_length own c k form) in
        let first = if_stands m q.0 k form g.0 (given_left e (m + 1) ks ls g.1) h.0 in
        (first.0 ∙ sym (sampled_is tag x), meets_both a (expression own m q.0 form) (branches own p x o rest) first.1 (if_branches p x o rest (given_right e (m + 1) o ks ls l g.1) h.1))
