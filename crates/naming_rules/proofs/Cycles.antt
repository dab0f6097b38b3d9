-- A name put between others, where each that leads to it led before to all that it leads to, makes no cycle.
use Rattle.std.proofs.Common.{◌≡◌, true, false, List, [], ◌∷◌, refl, ap, subst, ◌∙◌, ◌⊎◌, inl, inr, ⊎_elim}
use Rattle.hept_ast.specs.Texts.{Name, same}
use Rattle.hept_ast.specs.Causal.{InTurn, HasNoCycle}
use Rattle.core_rules.proofs.Ends.{same_self, same_is}
use Rattle.naming_rules.proofs.Names.{either, never}

-- one or more steps of a relation
data Plus {A : Type 0} (R : A → A → Type 0) : A → A → Type 0 where
  one : {x y : A} → R x y → Plus R x y
  more : {x y z : A} → R x y → Plus R y z → Plus R x z

turned : {A : Type 0} (R : A → A → Type 0) (x z : A) → Plus R x z → (rest : List A) × InTurn R z (x ∷ rest)
turned R x z (one r) = ([], r)
turned R x z (more {y = y} r p) = let t = turned R y z p in (y ∷ t.0, (r, t.1))

no_loop : {A : Type 0} (R : A → A → Type 0) → HasNoCycle R → (x : A) → Plus R x x → ⊥
no_loop R h x p = let t = turned R x x p in h (x ∷ t.0) t.1

steps_of : {A : Type 0} (R : A → A → Type 0) (z x : A) (xs : List A) → InTurn R z (x ∷ xs) → Plus R x z
steps_of R z x [] t = one t
steps_of R z x (y ∷ xs) t = more t.0 (steps_of R z y xs t.1)

-- what S leads to beside x is what R leads to, also on the way through x
pub record PutBetween (R S : Name → Name → Type 0) (x : Name) : Type 0 where
  pub kept : (y z : Name) → same y x ≡ false → same z x ≡ false → S y z → R y z
  pub through : (y z : Name) → same y x ≡ false → same z x ≡ false → S y x → S x z → R y z
  pub not_itself : S x x → ⊥

module _ (R S : Name → Name → Type 0) (x : Name) (b : PutBetween R S x) where
  -- R leads to one from which S leads to x
  Before : Name → Type 0
  Before y = (w : Name) × (same w x ≡ false) × S w x × ((y ≡ w) ⊎ Plus R y w)

  Walk : Name → Name → Type 0
  Walk y z = ((same z x ≡ false) × Plus R y z) ⊎ ((z ≡ x) × Before y)

  then_on : (y v z : Name) → R y v → Walk v z → Walk y z
  unfolding Walk Before
  then_on y v z r k = ⊎_elim (λ p. inl (p.0, more r p.1))
      (λ p. inr (p.0, (p.1.0, p.1.1, p.1.2, inr (⊎_elim (λ (e : v ≡ p.1.0). subst (λ (w : Name). Plus R y w) e (one r)) (λ (q : Plus R v p.1.0). more r q) p.1.3)))) k

  to_x : (y z : Name) → same z x ≡ true → S y z → S y x
  to_x y z e s = subst (λ (w : Name). S y w) (same_is z x e) s

  from_x : (y z : Name) → same y x ≡ true → S y z → S x z
  from_x y z e s = subst (λ (w : Name). S w z) (same_is y x e) s

  -- from a name beside x, and from x for each name that leads to it
  walks : (u z : Name) → Plus S u z → (same u x ≡ false → Walk u z) × (same u x ≡ true → (y : Name) → same y x ≡ false → S y x → Walk y z)
  unfolding Walk Before
  walks u z (one s) = (
    λ n. ⊎_elim (λ (e : same z x ≡ true). inr (same_is z x e, (u, n, to_x u z e s, inl refl))) (λ (f : same z x ≡ false). inl (f, one (b.kept u z n f s))) (either (same z x)),
    λ e y n t. ⊎_elim (λ (g : same z x ≡ true). absurd (b.not_itself (to_x x z g (from_x u z e s)))) (λ (f : same z x ≡ false). inl (f, one (b.through y z n f t (from_x u z e s)))) (either (same z x)),
  )
  walks u z (more {y = v} s p) =
      let r = walks v z p in (
        λ n. ⊎_elim (λ (e : same v x ≡ true). r.1 e u n (to_x u v e s)) (λ (f : same v x ≡ false). then_on u v z (b.kept u v n f s) (r.0 f)) (either (same v x)),
        λ e y n t. ⊎_elim (λ (g : same v x ≡ true). absurd (b.not_itself (to_x x v g (from_x u v e s)))) (λ (f : same v x ≡ false). then_on y v z (b.through y v n f t (from_x u v e s)) (r.0 f)) (either (same v x)),
      )

  -- a cycle that begins beside x
  no_other : HasNoCycle R → (u : Name) → same u x ≡ false → Walk u u → ⊥
  unfolding Walk Before
  no_other h u f k = ⊎_elim (λ p. no_loop R h u p.1) (λ p. never f (ap (λ (w : Name). same w x) p.0 ∙ same_self x)) k

  -- one that begins at x
  no_own : HasNoCycle R → (u v : Name) → same u x ≡ true → same v x ≡ false → S u v → Walk v u → ⊥
  unfolding Walk Before
  no_own h u v e f s k = ⊎_elim (λ p. never p.0 e)
      (λ p. let r : R p.1.0 v = b.through p.1.0 v p.1.1 f p.1.2 (from_x u v e s) in
      no_loop R h p.1.0 (⊎_elim (λ (i : v ≡ p.1.0). subst (λ (w : Name). Plus R p.1.0 w) i (one r)) (λ (q : Plus R v p.1.0). more r q) p.1.3)) k

  none_from : HasNoCycle R → (u : Name) → Plus S u u → ⊥
  none_from h u (one s) = ⊎_elim (λ (e : same u x ≡ true). b.not_itself (to_x x u e (from_x u u e s))) (λ (f : same u x ≡ false). no_other h u f ((walks u u (one s)).0 f)) (either (same u x))
  none_from h u (more {y = v} s p) =
      ⊎_elim
      (λ (e : same u x ≡ true). ⊎_elim (λ (g : same v x ≡ true). b.not_itself (to_x x v g (from_x u v e s))) (λ (f : same v x ≡ false). no_own h u v e f s ((walks v u p).0 f)) (either (same v x)))
      (λ (f : same u x ≡ false). no_other h u f ((walks u u (more s p)).0 f)) (either (same u x))

  pub no_cycle_between : HasNoCycle R → HasNoCycle S
  no_cycle_between h [] c = c
  no_cycle_between h (u ∷ xs) c = none_from h u (steps_of S u u xs c)
