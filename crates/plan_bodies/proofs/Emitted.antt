-- The values of the arguments of a call, one after another.
use Rattle.std.proofs.Common.{◌≡◌, inl, inr, ℕ, ◌+◌, ◌<◌, ◌≤◌, List, [], ◌∷◌, ◌++◌, length, take, get_or, refl, sym, subst, ap, ◌∙◌, arith}
use Rattle.std.specs.Prelude.{slice_index}
use Rattle.std.proofs.Math.Seq.{get_or-append_seam}
use Rattle.std.proofs.lemmas.List.{get_or_append_left, length-take-le, length_push, take_all, take_more}
use Rattle.std.proofs.lemmas.List.Elements.{All-nil, All-push}
use Rattle.std.proofs.lemmas.Option.{slice_get_within}
use Rattle.hept_ast.specs.Texts.{Name}
use Rattle.hept_ast.specs.declared.tree.TypeDec.{TypeDec}
use Rattle.hept_ast.specs.declared.tree.Expr.{Expr}
use Rattle.step_plans.specs.Things.{Part}
use Rattle.step_plans.specs.Operations.{In_values}
use Rattle.step_plans.specs.Plans.{Has}
use Rattle.plan_expressions.specs.Computable.{Computable}
use Rattle.plan_expressions.specs.Clocked.{EmitsOn, KeepsWithinOn}
use Rattle.plan_expressions.specs.declared.draft.Draft.{Draft}
use Rattle.plan_expressions.proofs.Adding.{knows_on, knows_same, registers_later}
use Rattle.plan_expressions.proofs.PlainOnes.{plain_emits, plain_keeps}
use Rattle.plan_bodies.specs.Arguments.{EmitsArguments, KeepsArguments}
use Rattle.plan_bodies.proofs.Lists.{last_or_before}

module _ (types : List TypeDec) (variables : List Name) (registers : List ℕ) (old : Draft) where
  none_emitted : EmitsArguments types variables registers old old [] []
  none_emitted g c s h start before same leads here have = record {
    after = before;
    leads = leads;
    more = knows_same before;
    longer = omega arith;
    has = λ k a get. absurd (cc);
  }

  -- one argument more
  one_emitted : (args : List Expr) (arg : Expr) (values : List ℕ) (value : ℕ) (mid new : Draft) → length values ≡ length args → Computable types variables 0 arg → EmitsArguments types variables registers old mid args values →
      EmitsOn types variables registers [] mid new arg value → EmitsArguments types variables registers old new (args ++ arg ∷ []) (values ++ value ∷ [])
  one_emitted args arg values value mid new many plain emits this g c s h start before same leads here have =
      let x = emits g c s h start before same leads here have in
      let y = plain_emits types variables registers mid new arg value plain this g c s h start x.after same x.leads (x.more.grows _ _ here)
      (registers_later before x.after s variables registers old.at mid.at x.longer x.more have) in
      record {
        after = y.after;
        leads = y.leads;
        more = knows_on before x.after y.after x.more y.more;
        longer = omega (arith, x.longer, y.longer);
        has = λ k a get. elim (last_or_before args arg k a get) [
          | inl i ↦
              let within : k < length args = slice_get_within args k a i in
              let at : slice_index (values ++ value ∷ []) k ≡ slice_index values k = get_or_append_left values (value ∷ []) 0 k (omega arith) in
              let z = x.has k a i in
              subst (λ (q : ℕ). Has y.after.entries (Part a c s) (In_values q) × (q < new.at)) (sym at) (y.more.grows _ _ z.0, omega (arith, z.1, y.longer))
          | inr i ↦
              let at : slice_index (values ++ value ∷ []) k ≡ value = ap (slice_index (values ++ value ∷ [])) (i.0 ∙ sym many) ∙ get_or-append_seam values value [] 0 in
              subst (λ (b : Expr). Has y.after.entries (Part b c s) (In_values (slice_index (values ++ value ∷ []) k)) × (slice_index (values ++ value ∷ []) k < new.at)) (sym i.1)
              (subst (λ (q : ℕ). Has y.after.entries (Part arg c s) (In_values q) × (q < new.at)) (sym at) (y.has, y.within))
        ];
      }

  one_kept : (values : List ℕ) (value : ℕ) (mid new : Draft) → KeepsArguments registers old mid values → KeepsWithinOn registers [] mid new value → KeepsArguments registers old new (values ++ value ∷ [])
  one_kept values value mid new keeps this cells below all =
      let x = keeps cells below all in
      let y = plain_keeps registers mid new value this cells (λ k d lt. omega (arith, below k d lt, x.1)) x.0 in
      (y.0, omega (arith, x.1, y.1), All-push (λ q. q < new.at) values value (λ k d lt. omega (arith, x.2 k d lt, y.1)) y.2)

  -- so many arguments have values
  pub record AreEmittedSoFar (args : List Expr) (count : ℕ) (values : List ℕ) (now : Draft) : Type 0 where
    pub emits : EmitsArguments types variables registers old now (take count args) values
    pub as_many : length values ≡ count
    pub within : KeepsArguments registers old now values

  pub none_so_far : (args : List Expr) (values : List ℕ) → values ≡ [] → AreEmittedSoFar args 0 values old
  none_so_far args values none = subst (λ (vs : List ℕ). AreEmittedSoFar args 0 vs old) (sym none) (record {
    emits = none_emitted;
    as_many = refl;
    within = λ cells below all. (all, omega arith, All-nil (λ q. q < old.at));
  })

  pub one_so_far : (args : List Expr) (count : ℕ) (values more : List ℕ) (arg : Expr) (value : ℕ) (mid new : Draft) → count < length args → arg ≡ get_or args count arg → more ≡ values ++ value ∷ [] → Computable types variables 0 arg →
      EmitsOn types variables registers [] mid new arg value → KeepsWithinOn registers [] mid new value → AreEmittedSoFar args count values mid → AreEmittedSoFar args (count + 1) more new
  one_so_far args count values more arg value mid new lt is longer plain emits keeps made =
      let steps : length (take count args) ≡ count = length-take-le count args (omega arith) in
      let next : take (count + 1) args ≡ take count args ++ arg ∷ [] = take_more args count arg lt ∙ ap (λ (a : Expr). take count args ++ a ∷ []) (sym is) in
      subst (λ (vs : List ℕ). AreEmittedSoFar args (count + 1) vs new) (sym longer) (record {
        emits = subst (λ (as_ : List Expr). EmitsArguments types variables registers old new as_ (values ++ value ∷ [])) (sym next)
            (one_emitted (take count args) arg values value mid new (made.as_many ∙ sym steps) plain made.emits emits);
        as_many = omega (arith, length_push values value, made.as_many);
        within = one_kept values value mid new made.within keeps;
      })

  pub all_emitted : (args : List Expr) (count : ℕ) (values : List ℕ) (now : Draft) → length args ≤ count → AreEmittedSoFar args count values now → EmitsArguments types variables registers old now args values
  all_emitted args count values now le made = subst (λ (as_ : List Expr). EmitsArguments types variables registers old now as_ values) (take_all count args le) made.emits
