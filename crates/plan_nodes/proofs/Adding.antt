-- The cells of some memories of a body come after those that are there.
use Rattle.std.proofs.Common.{◌≡◌, ℕ, ◌<◌, ◌≤◌, List, [], ◌∷◌, ◌++◌, All, sym, subst, ap, ◌∙◌, arith, append-nil, append_assoc}
use Rattle.std.specs.Prelude.{Some, slice_get, slice_index, slice_index_or}
use Rattle.std.proofs.lemmas.List.Elements.{All-push}
use Rattle.hept_ast.specs.Scopes.{Clock}
use Rattle.hept_ast.specs.Texts.{Name}
use Rattle.hept_ast.specs.declared.tree.TypeDec.{TypeDec}
use Rattle.hept_ast.specs.declared.tree.Core.{Core}
use Rattle.hept_ast.specs.declared.tree.CoreNode.{CoreNode}
use Rattle.hept_ast.specs.declared.tree.Expr.{Expr}
use Rattle.step_plans.specs.Things.{Memory, Here, Value_of, Presence_of}
use Rattle.step_plans.specs.Operations.{In_values}
use Rattle.step_plans.specs.Plans.{Entry, Has, quiet_equation, presence_where, value_where}
use Rattle.step_plans.specs.declared.instruction.Store.{Store}
use Rattle.step_plans.specs.declared.instruction.Store.TheVariants as keeps
use Rattle.step_engine.specs.Running.{IsStoreWithin}
use Rattle.plan_expressions.specs.Building.{HaveRegisters}
use Rattle.plan_expressions.specs.Clocked.{EmitsOn, KeepsWithinOn}
use Rattle.plan_expressions.specs.Computable.{Computable}
use Rattle.plan_expressions.specs.declared.draft.Draft.{Draft}
use Rattle.plan_expressions.proofs.Adding.{knows_on, registers_later}
use Rattle.plan_expressions.proofs.PlainOnes.{plain_emits, plain_keeps}
use Rattle.plan_equations.specs.Equations.{inside_of}
use Rattle.plan_equations.specs.Grounds.{Body}
use Rattle.plan_bodies.specs.Buildable.{variables_of}
use Rattle.plan_bodies.specs.Expansions.{IsPlaced, IsPlacedWithin, IsWhole}
use Rattle.plan_bodies.specs.declared.bodies.PlacedBody.{PlacedBody}
use Rattle.plan_nodes.specs.Built.{AddsCells, AreKept}
use Rattle.plan_nodes.specs.Stores.{IsPresence, IsPushed}
use Rattle.plan_nodes.specs.declared.stores.Cells.{Cells}
use Rattle.plan_nodes.proofs.Keeping.{one_cell_more, store_within_later}

pub stores_within_later : (n later : ℕ) (stores : List Store) → n ≤ later → All (IsStoreWithin n) stores → All (IsStoreWithin later) stores
stores_within_later n later stores le all = λ k d lt. store_within_later n later (slice_index_or stores k d) le (all k d lt)

-- what is there is there later
pub placed_within_later : (n later : ℕ) (placed : PlacedBody) → n ≤ later → IsPlacedWithin n placed → IsPlacedWithin later placed
placed_within_later n later placed le h = record {
  registers = λ k d lt. omega (arith, le, h.registers k d lt);
  presences = λ k d lt. omega (arith, le, h.presences k d lt);
}

-- the presence of a clock
presence_has : (entries : List Entry) (at : ℕ) (body : Body) (placed : PlacedBody) (c : Clock) (here : ℕ) → IsPresence placed c here → IsPlaced entries at body placed → Has entries (Here c (inside_of body.scope)) (In_values here)
presence_has entries at body placed c here is p =
    let there : slice_get body.node.equations is.place ≡ Some is.equation = subst (λ (n : CoreNode). slice_get n.equations is.place ≡ Some is.equation) p.node is.at in
    subst (λ (r : ℕ). Has entries (Here c (inside_of body.scope)) (In_values r)) is.presence
    (subst (λ (d : Clock). Has entries (Here d (inside_of body.scope)) (In_values (slice_index placed.presences.items is.place))) is.clock (p.present is.place is.equation there).0)

presence_below : (placed : PlacedBody) (c : Clock) (here at : ℕ) → IsPresence placed c here → All (λ q. q < at) placed.presences.items → here < at
presence_below placed c here at is below = subst (λ (q : ℕ). q < at) is.presence (below is.place 0 is.there)

-- the variables of the body have their values
variables_read : (core : Core) (entries : List Entry) (at : ℕ) (body : Body) (placed : PlacedBody) → IsWhole core placed → IsPlaced entries at body placed → HaveRegisters entries (inside_of body.scope) placed.variables placed.registers.items at
variables_read core entries at body placed whole p =
    subst (λ (xs : List Name). HaveRegisters entries (inside_of body.scope) xs placed.registers.items at) (sym (whole.variables ∙ ap variables_of p.node)) p.read

-- what an expression gives, in a cell of its own
pub adds_value : (core : Core) (body : Body) (placed : PlacedBody) (c : Clock) (here : ℕ) (old new : Draft) (before after : Cells) (e : Expr) (n r : ℕ) → IsWhole core placed → IsPresence placed c here → Computable core.types placed.variables 0 e →
    EmitsOn core.types placed.variables placed.registers.items [] old new e r → KeepsWithinOn placed.registers.items [] old new r → IsPushed before after (keeps.Where here r) n → AddsCells core.types body placed (Value_of e c (inside_of body.scope) n ∷ []) old before new after
adds_value core body placed c here old new before after e n r whole is plain emits stays pushed = record {
  keeps = λ g start from done same p quiet kept.
      let present : Has kept.here.entries (Here c (inside_of body.scope)) (In_values here) = kept.more.grows _ _ (presence_has from.entries from.at body placed c here is p) in
      let read : HaveRegisters kept.here.entries (inside_of body.scope) placed.variables placed.registers.items old.at =
      registers_later from kept.here (inside_of body.scope) placed.variables placed.registers.items from.at old.at kept.longer kept.more (variables_read core from.entries from.at body placed whole p) in
      let m = plain_emits core.types placed.variables placed.registers.items old new e r plain emits g c (inside_of body.scope) (In_values here) start kept.here same kept.leads present read in
      record {
        here = m.after;
        leads = m.leads;
        more = knows_on from kept.here m.after kept.more m.more;
        longer = omega (arith, kept.longer, m.longer);
        have = one_cell_more g kept.here.entries m.after.entries done before after (Value_of e c (inside_of body.scope) n) (keeps.Where here r) m.more.grows kept.have pushed
            (value_where e c (inside_of body.scope) n (quiet_equation quiet) (m.more.grows _ _ present) m.has);
      };
  within = λ count there actions stores.
      let x = plain_keeps placed.registers.items old new r stays count there.registers actions in
      let below : here < old.at = presence_below placed c here old.at is there.presences in (
        x.0,
        x.1,
        subst (λ (ss : List Store). All (IsStoreWithin new.at) ss) (sym pushed.stores)
            (All-push (IsStoreWithin new.at) before.stores.items (keeps.Where here r) (stores_within_later old.at new.at before.stores.items x.1 stores) (omega (arith, below, x.1), x.2)),
      );
}

-- the same, where the types and the variables with their values are read from slices
pub adds_value_of : (core : Core) (body : Body) (placed : PlacedBody) (types : List TypeDec) (variables : List Name) (registers : List ℕ) (c : Clock) (here : ℕ) (old new : Draft) (before after : Cells) (e : Expr) (n r : ℕ) →
    types ≡ core.types → variables ≡ placed.variables → registers ≡ placed.registers.items → IsWhole core placed → IsPresence placed c here → Computable core.types placed.variables 0 e → EmitsOn types variables registers [] old new e r → KeepsWithinOn registers [] old new r →
    IsPushed before after (keeps.Where here r) n → AddsCells core.types body placed (Value_of e c (inside_of body.scope) n ∷ []) old before new after
adds_value_of core body placed types variables registers c here old new before after e n r of_types of_variables of_registers whole is plain emits stays pushed =
    adds_value core body placed c here old new before after e n r whole is plain
    (subst (λ (ts : List TypeDec). EmitsOn ts placed.variables placed.registers.items [] old new e r) of_types
    (subst (λ (xs : List Name). EmitsOn types xs placed.registers.items [] old new e r) of_variables
    (subst (λ (rs : List ℕ). EmitsOn types variables rs [] old new e r) of_registers emits)))
    (subst (λ (rs : List ℕ). KeepsWithinOn rs [] old new r) of_registers stays) pushed

-- whether there was a presence
pub adds_presence : (types : List TypeDec) (body : Body) (placed : PlacedBody) (c : Clock) (here : ℕ) (draft : Draft) (before after : Cells) → IsPresence placed c here → IsPushed before after (keeps.Where here here) 0 →
    AddsCells types body placed (Presence_of c (inside_of body.scope) ∷ []) draft before draft after
adds_presence types body placed c here draft before after is pushed = record {
  keeps = λ g start from done same p quiet kept. record {
    here = kept.here;
    leads = kept.leads;
    more = kept.more;
    longer = kept.longer;
    have = one_cell_more g kept.here.entries kept.here.entries done before after (Presence_of c (inside_of body.scope)) (keeps.Where here here) (λ thing r h. h) kept.have pushed
        (presence_where c (inside_of body.scope) (quiet_equation quiet) (kept.more.grows _ _ (presence_has from.entries from.at body placed c here is p)));
  };
  within = λ count there actions stores.
      let below : here < draft.at = presence_below placed c here draft.at is there.presences in (
        actions,
        (omega arith),
        subst (λ (ss : List Store). All (IsStoreWithin draft.at) ss) (sym pushed.stores) (All-push (IsStoreWithin draft.at) before.stores.items (keeps.Where here here) stores (below, below)),
      );
}

-- ---- one after another

module _ (types : List TypeDec) (body : Body) (placed : PlacedBody) where
  pub adds_same : (memories others : List Memory) (old new : Draft) (before after : Cells) → memories ≡ others → AddsCells types body placed memories old before new after → AddsCells types body placed others old before new after
  adds_same memories others old new before after same adds = subst (λ (ms : List Memory). AddsCells types body placed ms old before new after) same adds

  pub adds_none : (draft : Draft) (cells : Cells) → AddsCells types body placed [] draft cells draft cells
  adds_none draft cells = record {
    keeps = λ g start from done same p quiet kept. subst (λ (ms : List Memory). AreKept g start from draft ms cells) (sym (append-nil done)) kept;
    within = λ count there actions stores. (actions, (omega arith), stores);
  }

  pub adds_on : (some more : List Memory) (old mid new : Draft) (before between after : Cells) → AddsCells types body placed some old before mid between → AddsCells types body placed more mid between new after → AddsCells types body placed (some ++ more) old before new after
  adds_on some more old mid new before between after first then = record {
    keeps = λ g start from done same p quiet kept.
        subst (λ (ms : List Memory). AreKept g start from new ms after) (append_assoc done some more) (then.keeps g start from (done ++ some) same p quiet (first.keeps g start from done same p quiet kept));
    within = λ count there actions stores.
        let x = first.within count there actions stores in
        let y = then.within count (placed_within_later old.at mid.at placed x.1 there) x.0 x.2 in
        (y.0, omega (arith, x.1, y.1), y.2);
  }
