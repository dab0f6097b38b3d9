-- An instruction at the end, and a meaning more.
use Rattle.std.proofs.Common.{◌≡◌, ℕ, suc, ◌<◌, ◌≤◌, List, [], ◌∷◌, ◌++◌, refl, sym, subst, ◌∙◌, arith}
use Rattle.hept_ast.specs.Texts.{Name}
use Rattle.hept_ast.specs.Scopes.{Clock, Scope}
use Rattle.hept_ast.specs.declared.tree.Expr.{Expr}
use Rattle.step_plans.specs.Things.{Thing, Here, Part}
use Rattle.step_plans.specs.Operations.{Register, In_values, Operation, operation_of}
use Rattle.step_plans.specs.Plans.{Ground, Entry, At, Has, newest, older, Computes, Makes, Means, part, Progress, MakesAll, computes, known}
use Rattle.step_plans.specs.declared.instruction.Instruction.{Instruction}
use Rattle.step_plans.specs.declared.action.Action.{Action}
use Rattle.step_plans.specs.declared.action.Action.TheVariants as act
use Rattle.step_plans.proofs.Making.{one_action_more, one_meaning_more}
use Rattle.plan_expressions.specs.Building.{Emitted, HaveRegisters, IsAdded, KnowsMore, Leads}
use Rattle.plan_expressions.specs.declared.draft.Draft.{Draft}

pub knows_same : (p : Progress) → KnowsMore p p
knows_same p = record { later = refl; grows = λ thing r h. h }

pub knows_on : (p q r : Progress) → KnowsMore p q → KnowsMore q r → KnowsMore p r
knows_on p q r a b = record { later = b.later ∙ a.later; grows = λ thing x h. b.grows thing x (a.grows thing x h) }

pub registers_later : (before after : Progress) (s : Scope) (variables : List Name) (registers : List ℕ) (at later : ℕ) → at ≤ later → KnowsMore before after → HaveRegisters before.entries s variables registers at →
    HaveRegisters after.entries s variables registers later
registers_later before after s variables registers at later le more have = λ k x get.
    let h = have k x get in
    (more.grows _ _ h.0, omega (arith, h.1))

-- what comes after something else
pub after : (g : Ground) (start before : Progress) (old mid new : Draft) (first then : Thing) (q r : ℕ) (x : Emitted g start before old mid first q) → Emitted g start x.after mid new then r → Emitted g start before old new then r
after g start before old mid new first then q r x y = record {
  after = y.after;
  leads = y.leads;
  more = knows_on before x.after y.after x.more y.more;
  has = y.has;
  within = y.within;
  longer = omega (arith, x.longer, y.longer);
}

-- a register that is there means a thing more
pub means_more : (g : Ground) (start here : Progress) (draft : Draft) (thing : Thing) (r : ℕ) → Leads g start draft here → r < draft.at → Means g here.entries thing (In_values r) → Emitted g start here draft draft thing r
means_more g start here draft thing r leads lt means = record {
  after = record { entries = At thing (In_values r) ∷ here.entries; at = here.at; later = here.later; offered = here.offered };
  leads = record {
    makes = one_meaning_more g [] [] start here _ draft.actions.items leads.makes (known thing (In_values r) (omega (arith, leads.at)) means);
    at = leads.at;
  };
  more = record { later = refl; grows = λ other q a. older a };
  has = newest;
  within = lt;
  longer = omega arith;
}

-- an instruction, whose operation makes a thing
pub adds_thing : (g : Ground) (start before now : Progress) (old mid new : Draft) (thing : Thing) (i : Instruction) (r : ℕ) → IsAdded mid new i r → Leads g start mid now → KnowsMore before now → old.at ≤ mid.at →
    Makes g now.entries (operation_of i) thing → Emitted g start before old new thing r
adds_thing g start before now old mid new thing i r added leads more le makes = record {
  after = record { entries = At thing (In_values r) ∷ now.entries; at = suc now.at; later = now.later; offered = now.offered };
  leads = record {
    makes = subst (λ (actions : List Action). MakesAll g [] [] start actions (record { entries = At thing (In_values r) ∷ now.entries; at = suc now.at; later = now.later; offered = now.offered })) (sym added.actions)
        (subst (λ (k : ℕ). MakesAll g [] [] start (mid.actions.items ++ act.Compute k i ∷ []) (record { entries = At thing (In_values r) ∷ now.entries; at = suc now.at; later = now.later; offered = now.offered })) leads.at
        (subst (λ (k : ℕ). MakesAll g [] [] start (mid.actions.items ++ act.Compute now.at i ∷ []) (record { entries = At thing (In_values k) ∷ now.entries; at = suc now.at; later = now.later; offered = now.offered }))
        (leads.at ∙ sym added.register)
        (one_action_more g [] [] start now _ mid.actions.items (act.Compute now.at i) leads.makes (computes thing makes))));
    at = omega (arith, leads.at, added.next);
  };
  more = record { later = more.later; grows = λ thing q a. older (more.grows thing q a) };
  has = newest;
  within = omega (arith, added.register, added.next);
  longer = omega (arith, added.next);
}

-- one whose operation gives what the expression gives
pub adds : (g : Ground) (start before now : Progress) (old mid new : Draft) (e : Expr) (c : Clock) (s : Scope) (h : Register) (i : Instruction) (r : ℕ) → IsAdded mid new i r → Leads g start mid now → KnowsMore before now → old.at ≤ mid.at →
    Has before.entries (Here c s) h → Computes g now.entries e c s (operation_of i) → Emitted g start before old new (Part e c s) r
adds g start before now old mid new e c s h i r added leads more le here does =
    adds_thing g start before now old mid new (Part e c s) i r added leads more le (part h e c s (more.grows _ h here) does)

pub computes_as : (g : Ground) (entries : List Entry) (e : Expr) (c : Clock) (s : Scope) (o : Operation) (i : Instruction) → operation_of i ≡ o → Computes g entries e c s o → Computes g entries e c s (operation_of i)
computes_as g entries e c s o i e_is h = subst (λ (p : Operation). Computes g entries e c s p) (sym e_is) h
