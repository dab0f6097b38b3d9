-- Activity, restarts and states are known once what is read around a scope is.
use Rattle.std.proofs.Common.{◌≡◌, ◌≢◌, ◌⊎◌, inl, inr, ℕ, zero, suc, ◌<◌, Bool, true, false, List, [], ◌∷◌, map, Option, Some, None, refl, subst, arith}
use Rattle.std.specs.Prelude.{if◌then◌else◌, Contains, slice_get}
use Rattle.std.specs.List.{flat_map}
use Rattle.std.proofs.lemmas.Grind.{flat_map-append}
use Rattle.std.proofs.lemmas.List.Folds.{flat_map-map}
use Rattle.hept_ast.specs.Texts.{Name, state_named}
use Rattle.hept_ast.specs.Scopes.{Clock, Scope, In_branch, In_body, In_state, Under}
use Rattle.hept_ast.specs.Parts.{branch_case, conditions_of, strong_of_all}
use Rattle.hept_ast.specs.Causal.{reads, reads_around}
use Rattle.hept_ast.specs.Types.{bool}
use Rattle.hept_ast.specs.Meaning.{Question, Gives, Variable, Active, Restarted, Active_state, Left_state, Answer, Unknown, Absent, Is, State_at, Rule, Says, Asks, is_true, is_state, is_marked, go_on_state, previous, taken, strong_of, weak_of, active_state_rule, left_state_rule}
use Rattle.hept_ast.specs.Outputs.{Knows, Follows, said, asked}
use Rattle.hept_ast.specs.declared.name.Place.{Place}
use Rattle.hept_ast.specs.declared.tree.Expr.{Expr}
use Rattle.hept_ast.specs.declared.tree.Decl.{Decl}
use Rattle.hept_ast.specs.declared.tree.Escape.{Escape}
use Rattle.hept_ast.specs.declared.tree.Block.{Block}
use Rattle.hept_ast.specs.declared.tree.Branch.{Branch}
use Rattle.hept_ast.specs.declared.tree.State.{State}
use Rattle.hept_ast.specs.declared.tree.Equation.{Equation, out-Equation}
use Rattle.hept_ast.specs.declared.tree.Equation.TheOpen.{Equation-F}
use Rattle.hept_ast.proofs.Depths.{by_rule}
use Rattle.sound_expressions.specs.Sound.{Within, Sees}
use Rattle.accepted_meaning.specs.SoundNodes.{SoundSwitch, SoundCondition}
use Rattle.accepted_meaning.specs.Placing.{site_of}
use Rattle.accepted_meaning.specs.Running.{Run, StandsIn, IsKnown, setting_of}
use Rattle.accepted_meaning.specs.Structure.{IsEquationOf, CallsNode}
use Rattle.accepted_meaning.specs.Asked.{IsReached, IsScoped, IsAsked}
use Rattle.accepted_meaning.proofs.KnownRules.{Known, Ends, IsStanding, no_state, a_state, known_by, says, answers, asks, tests, chosen, with_value, where_present, states, earlier}
use Rattle.accepted_meaning.proofs.KnownTrees.{IsSingle, contains_cases}
use Rattle.accepted_meaning.proofs.KnownScopes.{IsOn, around_trans, between, not_placed, Texts, Fits, Here, IsAround, itself, around_branch, around_body, around_state, around_right, IsFrame, Everything, FrameKnown, IsReady, restarts_up_to}
use Rattle.accepted_meaning.proofs.KnownReached.{body_is_around, scoped_moved, together_known}
use Rattle.accepted_meaning.proofs.KnownForms.{AllIn, all_by, all_first, all_second, gives}

-- ---- what is known of a state is absent or a state

-- a rule that says nothing else
data Stands : Rule → Type 0 where
  says_absent : Stands (Says Absent)
  says_unknown : Stands (Says Unknown)
  says_state : {j : ℕ} {m : Bool} → Stands (Says (State_at j m))
  asks_on : {q : Question} {go : Answer → Rule} → ((a : Answer) → Stands (go a)) → Stands (Asks q go)

standing : (K : Question → Answer → Type 0) (rows : List (List ℕ)) (d : Rule) (a : Answer) → Stands d → Follows K rows d a → a ≢ Unknown → IsStanding a
standing K rows d a says_absent said known = no_state
standing K rows d a says_unknown said known = absurd (known refl)
standing K rows d a says_state said known = a_state
standing K rows d a (asks_on {go = go} h) (asked {a = b} k f) known = standing K rows (go b) a (h b) f known

stands_if : (b : Bool) (c d : Rule) → Stands c → Stands d → Stands (if b then c else d)
stands_if true c d h k = h
stands_if false c d h k = k

module _ (r : Run) where
  taken_stands : (es : List Escape) (qs : List State) (j : ℕ) (m : Bool) (s : Scope) (t : ℕ) → Stands (taken (setting_of r) es qs (State_at j m) s t)
  taken_stands [] qs j m s t = says_state
  taken_stands (e ∷ es) qs j m s t = asks_on (λ a. stands_if (is_true a) _ _ says_state (taken_stands es qs j m s t))

  pending_stands : (a : Answer) (go : ℕ → Bool → Rule) → ((j : ℕ) (m : Bool) → Stands (go j m)) → Stands (go_on_state a go)
  pending_stands Absent go h = says_absent
  pending_stands (State_at j m) go h = h j m
  pending_stands _ go h = says_unknown

  previous_stands : (present restarted : ℕ → Question) (go : ℕ → Rule) (none : Rule) (t : ℕ) → ((p : ℕ) → Stands (go p)) → Stands none → Stands (previous present restarted go none t)
  previous_stands present restarted go none zero h k = k
  previous_stands present restarted go none (suc p) h k =
      asks_on (λ a. stands_if (is_true a) _ _ k (asks_on (λ b. stands_if (is_true b) _ _ (h p) (previous_stands present restarted go none p h k))))

  pub active_standing : (s : Scope) (qs : List State) (t : ℕ) (a : Answer) → IsKnown r (Active_state s qs t) a → IsStanding a
  active_standing s qs t a h = standing (Knows (setting_of r) r.rows) r.rows (active_state_rule (setting_of r) s qs t) a
      (asks_on (λ b. stands_if (is_true b) _ _
      (previous_stands (λ p. Active s p) (λ p. Restarted s p) _ _ t
      (λ p. asks_on (λ c. pending_stands c _ (λ j m. taken_stands (strong_of (setting_of r) (slice_get qs j)) qs j m s t)))
      (taken_stands (strong_of (setting_of r) (slice_get qs 0)) qs 0 false s t)) says_absent))
      (by_rule (setting_of r) r.rows (Active_state s qs t) a h) h.known

  pub left_standing : (s : Scope) (qs : List State) (t : ℕ) (a : Answer) → IsKnown r (Left_state s qs t) a → IsStanding a
  left_standing s qs t a h = standing (Knows (setting_of r) r.rows) r.rows (left_state_rule (setting_of r) s qs t) a
      (asks_on (λ c. pending_stands c _ (λ j m. taken_stands (weak_of (setting_of r) (slice_get qs j)) qs j false (In_state s qs j) t)))
      (by_rule (setting_of r) r.rows (Left_state s qs t) a h) h.known

-- ---- conditions

pub one_bool : IsSingle bool
one_bool = record { type = _; is = refl }

pub base_ready : {r : Run} {k : Within} {s : Scope} {t : ℕ} → IsReady r k s t []
base_ready = record { scoped = tt; steps = λ o. tt }

-- the reads of the strong conditions of one state
strong_reads : (Q : Name → Type 0) (qs : List State) (j : ℕ) (q : State) → slice_get qs j ≡ Some q → AllIn Q (flat_map (λ c. reads c.form) (strong_of_all qs)) → AllIn Q (flat_map (λ e. reads e.condition.form) q.strong)
strong_reads Q (x ∷ qs) zero q h all =
    let e : x ≡ q = cc in
    subst (λ (y : State). AllIn Q (flat_map (λ e. reads e.condition.form) y.strong)) e
    (all_by Q _ _ (flat_map-map (λ (c : Expr). reads c.form) (λ (e : Escape). e.condition) x.strong)
    (all_first Q _ _ (all_by Q _ _ (flat_map-append (λ (c : Expr). reads c.form) (conditions_of x.strong) (strong_of_all qs)) all)))
strong_reads Q (x ∷ qs) (suc j) q h all = strong_reads Q qs j q h (all_second Q _ _ (all_by Q _ _ (flat_map-append (λ (c : Expr). reads c.form) (conditions_of x.strong) (strong_of_all qs)) all))
strong_reads Q [] j q h all = absurd (no_state_there q h)
  where
    no_state_there : (q : State) → slice_get [] j ≡ Some q → ⊥
    no_state_there q h = cc

-- the first true condition
pub taken_end : (r : Run) (es : List Escape) (qs : List State) (j : ℕ) (m : Bool) (s : Scope) (t : ℕ) → ((e : Escape) → Contains es e → Known r (Gives e.condition [] s t)) → Ends r (taken (setting_of r) es qs (State_at j m) s t)
taken_end r [] qs j m s t each = says r (State_at j m) tt
taken_end r (e ∷ es) qs j m s t each =
    tests r (Gives e.condition [] s t) _ (each e (zero, omega arith, refl))
    (λ b. chosen r b (Says (State_at (state_named e.target qs) e.restart)) (taken (setting_of r) es qs (State_at j m) s t) (says r _ tt) (taken_end r es qs j m s t (λ x i. each x (later e es x i))))
  where
    later : (e : Escape) (es : List Escape) (x : Escape) → Contains es x → Contains (e ∷ es) x
    later e es x (k, l, h) = (suc k, omega arith, h)

all_flat : {A : Type 0} (Q : Name → Type 0) (f : A → List Name) (xs : List A) (x : A) → AllIn Q (flat_map f xs) → Contains xs x → AllIn Q (f x)
all_flat Q f [] x all i = absurd (none_in i)
  where
    none_in : Contains [] x → ⊥
    none_in h = omega (arith, h.1)
all_flat {A} Q f (y ∷ xs) x all i = split (λ j. all_flat Q f xs x (all_second Q (f y) _ all) j) (contains_cases y xs x i)
  where
    split : (Contains xs x → AllIn Q (f x)) → (y ≡ x) ⊎ Contains xs x → AllIn Q (f x)
    split next (inl e) = subst (λ (z : A). AllIn Q (f z)) e (all_first Q (f y) _ all)
    split next (inr j) = next j

pub condition_known : (r : Run) → Texts r → Fits r → (k : Within) (s : Scope) (t : ℕ) (Q : Name → Type 0) → Here r k s t Q → (e : Expr) → SoundCondition k (site_of s) e → AllIn Q (reads e.form) → Known r (Gives e [] s t)
condition_known r texts fits k s t Q here e sound all = gives r texts fits k s t Q here e [] bool sound.sound all base_ready one_bool

-- the strong conditions of a state
strong_known : (r : Run) → Texts r → Fits r → (k : Within) (s : Scope) (t : ℕ) (Q : Name → Type 0) → Here r k s t Q → (e : Equation) (p : Place) (qs : List State) → IsEquationOf r k s e → out-Equation e ≡ Equation-F.Automaton p qs →
    AllIn Q (flat_map (λ c. reads c.form) (strong_of_all qs)) → (j : ℕ) (m : Bool) (o : Option State) → slice_get qs j ≡ o → Ends r (taken (setting_of r) (strong_of (setting_of r) o) qs (State_at j m) s t)
strong_known r texts fits k s t Q here e p qs h eq all j m None at = says r (State_at j m) tt
strong_known r texts fits k s t Q here e p qs h eq all j m (Some q) at =
    taken_end r q.strong qs j m s t
    (λ go i. condition_known r texts fits k s t Q here go.condition (texts.sound_strong k s e p qs j q go h eq at i).0
    (all_flat Q (λ (x : Escape). reads x.condition.form) q.strong go (strong_reads Q qs j q at all) i))

pub active_state_known : (r : Run) → Texts r → Fits r → (k : Within) (s : Scope) (t : ℕ) (Q : Name → Type 0) → Here r k s t Q → (e : Equation) (p : Place) (qs : List State) → IsEquationOf r k s e → out-Equation e ≡ Equation-F.Automaton p qs →
    AllIn Q (flat_map (λ c. reads c.form) (strong_of_all qs)) → Known r (Active_state s qs t)
active_state_known r texts fits k s t Q here e p qs h eq all = known_by r (Active_state s qs t)
    (where_present r (Active s t) _ here.active
    (earlier r (λ p. Active s p) (λ p. Restarted s p) _ _ t (λ i l. (here.before i l).active k s here.stands here.asked) (restarts_up_to here s itself here.stands)
    (λ i l. states r (Left_state s qs i) _ ((here.before i l).left k s e p qs h here.asked eq) (left_standing r s qs i)
    (λ j m g. strong_known r texts fits k s t Q here e p qs h eq all j m (slice_get qs j) refl))
    (strong_known r texts fits k s t Q here e p qs h eq all 0 false (slice_get qs 0) refl)))

-- ---- the scopes of a node's body

-- what is known at an instant in the body of a node, where variables with some names are known
pub record InFrame (r : Run) (k : Within) (f : Scope) (t : ℕ) (Q : Name → Type 0) : Type 0 where
  pub frame : IsFrame f
  pub stands : StandsIn r k f
  pub asked : IsAsked r f
  pub before : (p : ℕ) → p < t → Everything r p
  pub active : Known r (Active f t)
  pub restarted : Known r (Restarted f t)
  pub variables : (s : Scope) (x : Name) (d : Decl) (c : Clock) → Q x → IsAround f s → StandsIn r k s → Sees k (site_of s) x d c → IsScoped r k s c → Known r (Variable x s t)
  pub called : (callee : Within) → CallsNode r.program.program.nodes k.node.name callee.node.name → FrameKnown r callee t

-- a variable that is reached from a scope of the body
reached_known : {r : Run} {k : Within} {f : Scope} {t : ℕ} {Q : Name → Type 0} → Texts r → InFrame r k f t Q → (s : Scope) → IsAround f s → StandsIn r k s → (x : Name) (c : Clock) → Q x → IsReached r k s x c → IsScoped r k s c → IsOn r s t → Known r (Variable x s t)
reached_known {r} {k} {f} {t} texts w s i stands x c q g sc o =
    let a : IsAround f g.together.around = between f g.together.around s w.frame i (body_is_around g.together.around s g.together.first) in
    let j : IsAround f g.scope = around_trans f g.together.around g.scope a (body_is_around g.together.around g.scope g.together.second) in
    together_known r texts k s g.scope t g.together stands g.stands o x (w.variables g.scope x g.declaration c q j g.stands g.sees (scoped_moved r k s g.scope c g.together sc))

at_the_frame : {r : Run} {k : Within} {f : Scope} {t : ℕ} {Q : Name → Type 0} → Texts r → InFrame r k f t Q → ((h : Scope) → IsAround h f → Known r (Restarted h t)) → Here r k f t Q
at_the_frame {f = f} texts w restarts = record {
  stands = w.stands;
  asked = w.asked;
  before = w.before;
  active = w.active;
  restarts = restarts;
  variables = λ x d c q sees sc. w.variables f x d c q itself w.stands sees sc;
  reached = λ x c q g sc o. reached_known texts w f itself w.stands x c q g sc o;
  called = w.called;
}

-- what is around the body of a node is itself
around_frame : (P : Scope → Type 0) (h f : Scope) → IsFrame f → IsAround h f → P f → P h
around_frame P h f frame itself p = p
around_frame P h (In_branch s on b) frame (around_branch i) p = elim frame [ ]
around_frame P h (In_body s every block) frame (around_body i) p = elim frame [ ]
around_frame P h (In_state s qs j) frame (around_state i) p = elim frame [ ]
around_frame P h (Under s resets) frame (around_right i) p = elim frame [ ]

pub frame_here : {r : Run} {k : Within} {f : Scope} {t : ℕ} {Q : Name → Type 0} → Texts r → InFrame r k f t Q → Here r k f t Q
frame_here {r} {k} {f} {t} texts w = at_the_frame texts w (λ h i. around_frame (λ (x : Scope). Known r (Restarted x t)) h f w.frame i w.restarted)

-- a branch, a body and a state, from what is known around it
pub branch_here : (r : Run) → Texts r → Fits r → (k : Within) (f s : Scope) (t : ℕ) (Q : Name → Type 0) → InFrame r k f t Q → (on : Expr) (b : Branch) → IsAround f s → StandsIn r k (In_branch s on b) →
    AllIn Q (reads on.form) → Here r k s t Q → Here r k (In_branch s on b) t Q
branch_here r texts fits k f s t Q w on b i stands all here = record {
  stands = stands;
  asked = here.asked;
  before = here.before;
  active = known_by r (Active (In_branch s on b) t)
      (with_value r (Gives on [] s t) _ _ (gives r texts fits k s t Q here on [] _ sound.sound all base_ready (record { type = _; is = refl })) (λ yes. says r (Is yes) tt));
  restarts = λ h j. inner h j;
  variables = λ x d c q sees sc. w.variables (In_branch s on b) x d c q (around_branch i) stands sees sc;
  reached = λ x c q g sc o. reached_known texts w (In_branch s on b) (around_branch i) stands x c q g sc o;
  called = here.called;
}
  where
    outside : (e : Equation) × (p : Place) × (bs : List Branch) × IsEquationOf r k s e × (out-Equation e ≡ Equation-F.Switch p on bs) × Contains bs b
    outside = texts.branch_outside k s on b stands

    sound : SoundSwitch k (site_of s) on (map branch_case outside.2)
    sound = texts.sound_switch k s outside.0 outside.1 on outside.2 outside.3 outside.4

    inner : (h : Scope) → IsAround h (In_branch s on b) → Known r (Restarted h t)
    inner h itself = known_by r (Restarted (In_branch s on b) t) (answers r (Restarted s t) (here.restarts s itself))
    inner h (around_branch j) = here.restarts h j

pub body_here : (r : Run) → Texts r → Fits r → (k : Within) (f s : Scope) (t : ℕ) (Q : Name → Type 0) → InFrame r k f t Q → (every : Expr) (block : Block) → IsAround f s → StandsIn r k (In_body s every block) →
    AllIn Q (reads every.form) → Here r k s t Q → Here r k (In_body s every block) t Q
body_here r texts fits k f s t Q w every block i stands all here = record {
  stands = stands;
  asked = here.asked;
  before = here.before;
  active = known_by r (Active (In_body s every block) t) (answers r (Active s t) here.active);
  restarts = λ h j. inner h j;
  variables = λ x d c q sees sc. w.variables (In_body s every block) x d c q (around_body i) stands sees sc;
  reached = λ x c q g sc o. reached_known texts w (In_body s every block) (around_body i) stands x c q g sc o;
  called = here.called;
}
  where
    outside : (e : Equation) × (p : Place) × IsEquationOf r k s e × (out-Equation e ≡ Equation-F.Reset p block every)
    outside = texts.body_outside k s every block stands

    sound : SoundCondition k (site_of s) every
    sound = (texts.sound_reset k s outside.0 outside.1 block every outside.2 outside.3).0

    inner : (h : Scope) → IsAround h (In_body s every block) → Known r (Restarted h t)
    inner h itself = known_by r (Restarted (In_body s every block) t)
        (tests r (Restarted s t) _ (here.restarts s itself)
        (λ again. chosen r again (Says (Is true)) _ (says r (Is true) tt)
        (tests r (Gives every [] s t) _ (condition_known r texts fits k s t Q here every sound all) (λ b. says r (Is b) tt))))
    inner h (around_body j) = here.restarts h j

pub state_here : (r : Run) → Texts r → Fits r → (k : Within) (f s : Scope) (t : ℕ) (Q : Name → Type 0) → InFrame r k f t Q → (qs : List State) (n : ℕ) → IsAround f s → StandsIn r k (In_state s qs n) →
    AllIn Q (flat_map (λ c. reads c.form) (strong_of_all qs)) → Here r k s t Q → Here r k (In_state s qs n) t Q
state_here r texts fits k f s t Q w qs n i stands all here = record {
  stands = stands;
  asked = here.asked;
  before = here.before;
  active = known_by r (Active (In_state s qs n) t) (asks r (Active_state s qs t) _ state (λ a g. says r (Is (is_state n a)) tt));
  restarts = λ h j. inner h j;
  variables = λ x d c q sees sc. w.variables (In_state s qs n) x d c q (around_state i) stands sees sc;
  reached = λ x c q g sc o. reached_known texts w (In_state s qs n) (around_state i) stands x c q g sc o;
  called = here.called;
}
  where
    outside : (e : Equation) × (p : Place) × (q : State) × IsEquationOf r k s e × (out-Equation e ≡ Equation-F.Automaton p qs) × (slice_get qs n ≡ Some q)
    outside = texts.state_outside k s qs n stands

    state : Known r (Active_state s qs t)
    state = active_state_known r texts fits k s t Q here outside.0 outside.1 qs outside.3 outside.4 all

    inner : (h : Scope) → IsAround h (In_state s qs n) → Known r (Restarted h t)
    inner h itself = known_by r (Restarted (In_state s qs n) t)
        (tests r (Restarted s t) _ (here.restarts s itself)
        (λ again. chosen r again (Says (Is true)) _ (says r (Is true) tt)
        (asks r (Active_state s qs t) _ state (λ a g. says r (Is (is_marked n a)) tt))))
    inner h (around_state j) = here.restarts h j

-- what is known in a scope, once all that is read around it is
pub surround : (r : Run) → Texts r → Fits r → (k : Within) (f : Scope) (t : ℕ) (Q : Name → Type 0) → InFrame r k f t Q → (s : Scope) → IsAround f s → StandsIn r k s →
    AllIn Q (flat_map reads_around (site_of s)) → Here r k s t Q
surround r texts fits k f t Q w s itself stands all = frame_here texts w
surround r texts fits k f t Q w (In_branch s on b) (around_branch i) stands all =
    branch_here r texts fits k f s t Q w on b i stands (all_first Q (reads on.form) _ all)
    (surround r texts fits k f t Q w s i (texts.branch_outside k s on b stands).3.stands (all_second Q (reads on.form) _ all))
surround r texts fits k f t Q w (In_body s every block) (around_body i) stands all =
    body_here r texts fits k f s t Q w every block i stands (all_first Q (reads every.form) _ all)
    (surround r texts fits k f t Q w s i (texts.body_outside k s every block stands).2.stands (all_second Q (reads every.form) _ all))
surround r texts fits k f t Q w (In_state s qs n) (around_state i) stands all =
    state_here r texts fits k f s t Q w qs n i stands (all_first Q (flat_map (λ c. reads c.form) (strong_of_all qs)) _ all)
    (surround r texts fits k f t Q w s i (texts.state_outside k s qs n stands).3.stands (all_second Q (flat_map (λ c. reads c.form) (strong_of_all qs)) _ all))
surround r texts fits k f t Q w (Under s resets) (around_right i) stands all = absurd (not_placed r s resets stands.placed)
