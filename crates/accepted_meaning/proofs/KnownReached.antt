-- Variables that are reached: seen in a scope that only bodies of resets separate from this one.
use Rattle.std.proofs.Common.{◌≡◌, ◌⊎◌, inl, inr, ℕ, true, [], ◌∷◌, ◌++◌, Option, sym, subst}
use Rattle.std.specs.Prelude.{is_some}
use Rattle.hept_ast.specs.Texts.{Name}
use Rattle.hept_ast.specs.Scopes.{Clock, Scope, In_body, home, declared_in}
use Rattle.hept_ast.specs.Parts.{declaration}
use Rattle.hept_ast.specs.Meaning.{Variable, Last, Present, Active, Restarted, answer_to, initial_rule}
use Rattle.hept_ast.specs.declared.tree.Decl.{Decl}
use Rattle.hept_ast.specs.declared.tree.Expr.{Expr}
use Rattle.hept_ast.specs.declared.tree.Block.{Block}
use Rattle.sound_expressions.specs.Sound.{Within, Sees}
use Rattle.accepted_meaning.specs.Placing.{site_of}
use Rattle.accepted_meaning.specs.Running.{Run, StandsIn, setting_of}
use Rattle.accepted_meaning.specs.Structure.{IsHome, IsSeenFrom, at_home, in_branch, in_body, in_state}
use Rattle.accepted_meaning.specs.Asked.{IsBodyIn, no_body, in_reset, AreTogether, AreReached, IsScoped, IsAsked}
use Rattle.accepted_meaning.proofs.KnownRules.{Known, Ends, known_by, answers, earlier}
use Rattle.accepted_meaning.proofs.KnownScopes.{Texts, Here, IsOn, IsAround, itself, around_body, home_around, asked_around, around_trans, Everything, StepsKnown, present_known, scoped_step, restarts_up_to, initial_end}
use Rattle.accepted_meaning.proofs.KnownSame.{alike_answer, same_itself}
use Rattle.accepted_meaning.proofs.KnownCarried.{on_around, carried, FrameOf, frame_of}

pub body_is_around : (g s : Scope) → IsBodyIn g s → IsAround g s
body_is_around g s no_body = itself
body_is_around g (In_body s every block) (in_reset i) = around_body (body_is_around g s i)

body_trans : (g h s : Scope) → IsBodyIn g h → IsBodyIn h s → IsBodyIn g s
body_trans g h s i no_body = i
body_trans g h (In_body s every block) i (in_reset j) = in_reset (body_trans g h s i j)

-- of two scopes around one, one is around the other
one_around : (g h s : Scope) → IsBodyIn g s → IsBodyIn h s → IsBodyIn g h ⊎ IsBodyIn h g
one_around g h s no_body j = inr j
one_around g h s i no_body = inl i
one_around g h (In_body s every block) (in_reset i) (in_reset j) = one_around g h s i j

pub together_with : (s u v : Scope) → AreTogether s u → AreTogether s v → AreTogether u v
together_with s u v a b = split (one_around a.around b.around s a.first b.first)
  where
    split : IsBodyIn a.around b.around ⊎ IsBodyIn b.around a.around → AreTogether u v
    split (inl i) = record { around = a.around; first = a.second; second = body_trans a.around b.around v i b.second }
    split (inr i) = record { around = b.around; first = body_trans b.around a.around u i a.second; second = b.second }

pub with_body : (s : Scope) (every : Expr) (block : Block) → AreTogether s (In_body s every block)
with_body s every block = record { around = s; first = no_body; second = in_reset no_body }

pub with_around : (s : Scope) (every : Expr) (block : Block) → AreTogether (In_body s every block) s
with_around s every block = record { around = s; first = in_reset no_body; second = no_body }

pub with_itself : (s : Scope) → AreTogether s s
with_itself s = record { around = s; first = no_body; second = no_body }

-- ---- clocks

reached_moved : (r : Run) (k : Within) (s u : Scope) (before c : Clock) → AreTogether s u → AreReached r k s before c → AreReached r k u before c
reached_moved r k s u before [] a h = tt
reached_moved r k s u before (step ∷ c) a h =
    (record { scope = h.0.scope; together = together_with s u h.0.scope a h.0.together; stands = h.0.stands; declaration = h.0.declaration; sees = h.0.sees }, reached_moved r k s u (before ++ step ∷ []) c a h.1)

pub scoped_moved : (r : Run) (k : Within) (s u : Scope) (c : Clock) → AreTogether s u → IsScoped r k s c → IsScoped r k u c
scoped_moved r k s u c a h = reached_moved r k s u [] c a h

base_scoped : (r : Run) (k : Within) (s : Scope) (c : Clock) → c ≡ [] → IsScoped r k s c
base_scoped r k s c e = subst (λ (z : Clock). IsScoped r k s z) (sym e) tt

-- at home as where it is seen
pub home_scoped : (r : Run) (k : Within) (x : Name) (d : Decl) (c : Clock) (h s : Scope) → IsSeenFrom r k x d c h s → IsScoped r k s c → IsScoped r k h c
home_scoped r k x d c h s (at_home stands is declares declared sees) sc = sc
home_scoped r k x d c h s (in_branch inner stands is sees base) sc = base_scoped r k h c base
home_scoped r k x d c h s (in_body {s = outer} {every = every} {block = block} inner stands is sees) sc =
    home_scoped r k x d c h outer inner (scoped_moved r k (In_body outer every block) outer c (with_around outer every block) sc)
home_scoped r k x d c h s (in_state inner stands is sees base) sc = base_scoped r k h c base

-- ---- scopes together

asked_inside : (r : Run) (g s : Scope) → IsBodyIn g s → IsAsked r g → IsAsked r s
asked_inside r g s no_body h = h
asked_inside r g (In_body s every block) (in_reset i) h = asked_inside r g s i h

asked_together : (r : Run) (s u : Scope) → AreTogether s u → IsAsked r s → IsAsked r u
asked_together r s u a h = asked_inside r a.around u a.second (asked_around r a.around s (body_is_around a.around s a.first) h)

on_inside : (r : Run) (g s : Scope) (t : ℕ) → IsBodyIn g s → IsOn r g t → IsOn r s t
on_inside r g s t no_body o = o
on_inside r g (In_body s every block) t (in_reset i) o =
    let n = on_inside r g s t i o in
    record { answer = n.answer; known = (alike_answer r (Active (In_body s every block) t) (Active s t) same_itself).from n.answer n.known; true_is = n.true_is }

pub on_together : (r : Run) → Texts r → (k : Within) (s u : Scope) (t : ℕ) → AreTogether s u → StandsIn r k s → IsOn r s t → IsOn r u t
on_together r texts k s u t a stands o = on_inside r a.around u t a.second (on_around r k a.around s t (body_is_around a.around s a.first) stands o texts)

-- a variable that is known in one is known in the other
pub together_known : (r : Run) → Texts r → (k : Within) (s u : Scope) (t : ℕ) → AreTogether s u → StandsIn r k s → StandsIn r k u → IsOn r s t → (z : Name) → Known r (Variable z u t) → Known r (Variable z s t)
together_known r texts k s u t a stands_s stands_u o z h =
    let f : FrameOf a.around = frame_of a.around in
    let i : IsAround f.frame s = around_trans f.frame a.around s f.around (body_is_around a.around s a.first) in
    let j : IsAround f.frame u = around_trans f.frame a.around u f.around (body_is_around a.around u a.second) in (
      h.0,
      (carried r texts.sound texts k f.frame t f.is_frame z s i stands_s o).from h.0
          ((carried r texts.sound texts k f.frame t f.is_frame z u j stands_u (on_together r texts k s u t a stands_s o)).to h.0 h.1),
    )

-- ---- earlier instants

reached_before : (r : Run) → Texts r → (k : Within) (s : Scope) (p : ℕ) (before c : Clock) → StandsIn r k s → IsAsked r s → Everything r p → IsOn r s p → IsScoped r k s before → AreReached r k s before c → StepsKnown r c s p
reached_before r texts k s p before [] stands asked all o sb h = tt
reached_before r texts k s p before (step ∷ c) stands asked all o sb h = (
  together_known r texts k s h.0.scope p h.0.together stands h.0.stands o step.name
      (all.variables k h.0.scope step.name h.0.declaration before h.0.stands (asked_together r s h.0.scope h.0.together asked) h.0.sees (scoped_moved r k s h.0.scope before h.0.together sb)),
  reached_before r texts k s p (before ++ step ∷ []) c stands asked all o (scoped_step r k s before step sb h.0) h.1,
)

pub present_before : (r : Run) → Texts r → (k : Within) (s : Scope) (p : ℕ) (c : Clock) → StandsIn r k s → IsAsked r s → Everything r p → IsScoped r k s c → Known r (Present c s p)
present_before r texts k s p c stands asked all h = present_known r c s p (all.active k s stands asked) (λ o. reached_before r texts k s p [] c stands asked all o tt h)

pub last_known : {r : Run} {k : Within} {s : Scope} {t : ℕ} {Q : Name → Type 0} → Texts r → Here r k s t Q → (x : Name) (d : Decl) (c : Clock) → Sees k (site_of s) x d c → IsScoped r k s c → is_some d.init ≡ true → Known r (Last x s t)
last_known {r} {k} {s} {t} texts here x d c sees sc init =
    let h : Scope = home x s in
    let i : IsAround h s = home_around x s in
    let o : IsHome r k x d c h = texts.home_of k s x d c here.stands sees in
    let asked : IsAsked r h = asked_around r h s i here.asked in
    let sc_h : IsScoped r k h c = home_scoped r k x d c h s (texts.seen_from_home k s x d c here.stands sees) sc in
    known_by r (Last x s t)
    (earlier r (λ p. Active h p) (λ p. Restarted h p) (λ p. answer_to (Variable x h p)) (initial_rule (setting_of r) (declaration (declared_in h) x)) t
    (λ p l. (here.before p l).active k h o.stands asked)
    (restarts_up_to here h i o.stands)
    (λ p l. answers r (Variable x h p) ((here.before p l).variables k h x d c o.stands asked o.sees sc_h))
    (subst (λ (y : Option Decl). Ends r (initial_rule (setting_of r) y)) (sym o.declared) (initial_end r d.init init)))
