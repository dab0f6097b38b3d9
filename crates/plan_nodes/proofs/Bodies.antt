-- The cells of bodies, one after another.
use Rattle.std.proofs.Common.{◌≡◌, ℕ, ◌+◌, ◌<◌, ◌≤◌, List, [], ◌∷◌, ◌++◌, All, length, take, get_or, refl, sym, subst, ap, ◌∙◌, arith, append-nil}
use Rattle.std.specs.List.{flat_map}
use Rattle.std.proofs.lemmas.Grind.{flat_map-append}
use Rattle.std.proofs.lemmas.List.{take_more, take_all}
use Rattle.hept_ast.specs.declared.tree.TypeDec.{TypeDec}
use Rattle.step_plans.specs.Things.{Memory}
use Rattle.step_plans.specs.Plans.{Ground, Entry, top_of}
use Rattle.step_plans.specs.declared.instruction.Store.{Store}
use Rattle.step_engine.specs.Running.{IsStoreWithin}
use Rattle.plan_expressions.specs.declared.draft.Draft.{Draft}
use Rattle.plan_expressions.proofs.Adding.{knows_same}
use Rattle.plan_equations.specs.Grounds.{Body, body_memories}
use Rattle.plan_bodies.specs.Expansions.{ArePlaced, IsPlaced, IsPlacedWithin}
use Rattle.plan_bodies.specs.declared.bodies.PlacedBody.{PlacedBody}
use Rattle.plan_nodes.specs.Built.{AddsAllCells, AddsCells, AreKept, HaveCells, IsQuietBody}
use Rattle.plan_nodes.specs.declared.stores.Cells.{Cells}
use Rattle.plan_nodes.proofs.Adding.{placed_within_later}
use Rattle.plan_nodes.proofs.Lists.{all_front, last_of}

-- the last of some bodies
record IsSplit (entries : List Entry) (at : ℕ) (all : List Body) (placed : List PlacedBody) (p : PlacedBody) : Type 0 where
  front : List Body
  last : Body
  whole : all ≡ front ++ last ∷ []
  fronts : ArePlaced entries at front placed
  lasts : IsPlaced entries at last p

split : (entries : List Entry) (at : ℕ) (all : List Body) (placed : List PlacedBody) (p : PlacedBody) → ArePlaced entries at all (placed ++ p ∷ []) → IsSplit entries at all placed p
split entries at [] [] p h = absurd h
split entries at [] (q ∷ placed) p h = absurd h
split entries at (body ∷ []) [] p h = record { front = []; last = body; whole = refl; fronts = tt; lasts = h.0 }
split entries at (body ∷ other ∷ all) [] p h = absurd h.1
split entries at (body ∷ all) (q ∷ placed) p h =
    let rest = split entries at all placed p h.1 in
    record { front = body ∷ rest.front; last = rest.last; whole = ap (λ (bs : List Body). body ∷ bs) rest.whole; fronts = (h.0, rest.fronts); lasts = rest.lasts }

none_placed : (entries : List Entry) (at : ℕ) (all : List Body) → ArePlaced entries at all [] → all ≡ []
none_placed entries at [] h = refl
none_placed entries at (body ∷ all) h = absurd h

have_none : (g : Ground) (entries : List Entry) (cells : Cells) → cells.stores.items ≡ [] → cells.initial.items ≡ [] → HaveCells g entries [] cells
have_none g entries cells stores initial = record { as_many = ap length stores; keeps = λ k m get. absurd (cc); initial = initial }

module _ (types : List TypeDec) where
  pub no_bodies : (draft : Draft) (cells : Cells) → cells.stores.items ≡ [] → cells.initial.items ≡ [] → AddsAllCells types [] draft draft cells
  no_bodies draft cells stores initial = record {
    keeps = λ g start from all same are quiet leads. record {
      here = from;
      leads = leads;
      more = knows_same from;
      longer = omega (arith, leads.at);
      have = subst (λ (bs : List Body). HaveCells g from.entries (flat_map (body_memories types) bs) cells) (sym (none_placed from.entries from.at all are)) (have_none g from.entries cells stores initial);
    };
    within = λ count there actions. (actions, (omega arith), subst (λ (ss : List Store). All (IsStoreWithin draft.at) ss) (sym stores) (λ k d lt. absurd (omega arith)));
  }

  memories_more : (all front : List Body) (last : Body) → all ≡ front ++ last ∷ [] → flat_map (body_memories types) front ++ body_memories types last ≡ flat_map (body_memories types) all
  memories_more all front last whole =
      sym (ap (flat_map (body_memories types)) whole ∙ flat_map-append (body_memories types) front (last ∷ []) ∙ ap (λ (ms : List Memory). flat_map (body_memories types) front ++ ms) (append-nil (body_memories types last)))

  -- one body more
  adds_one_more : (placed : List PlacedBody) (p : PlacedBody) (old mid new : Draft) (between after : Cells) → AddsAllCells types placed old mid between → ((body : Body) → p.node.now ≡ body.node → AddsCells types body p (body_memories types body) mid between new after) →
      AddsAllCells types (placed ++ p ∷ []) old new after
  adds_one_more placed p old mid new between after done here = record {
    keeps = λ g start from all same are quiet leads.
        let s = split from.entries from.at all placed p are in
        let quiets : All IsQuietBody (s.front ++ s.last ∷ []) = subst (λ (bs : List Body). All IsQuietBody bs) s.whole quiet in
        let kept = done.keeps g start from s.front same s.fronts (all_front IsQuietBody s.front (s.last ∷ []) quiets) leads in
        subst (λ (ms : List Memory). AreKept g start from new ms after) (memories_more all s.front s.last s.whole)
        ((here s.last s.lasts.node).keeps g start from (flat_map (body_memories types) s.front) same s.lasts (last_of IsQuietBody s.front s.last quiets) kept);
    within = λ count there actions.
        let x = done.within count (all_front (IsPlacedWithin old.at) placed (p ∷ []) there) actions in
        let body : Body = record { node = p.node.now; scope = top_of p.node.now } in
        let y = (here body refl).within count (placed_within_later old.at mid.at p x.1 (last_of (IsPlacedWithin old.at) placed p there)) x.0 x.2 in
        (y.0, omega (arith, x.1, y.1), y.2);
  }

  pub adds_body : (placed : List PlacedBody) (i : ℕ) (p : PlacedBody) (old mid new : Draft) (between after : Cells) → i < length placed → p ≡ get_or placed i p → AddsAllCells types (take i placed) old mid between →
      ((body : Body) → p.node.now ≡ body.node → AddsCells types body p (body_memories types body) mid between new after) → AddsAllCells types (take (i + 1) placed) old new after
  adds_body placed i p old mid new between after lt is done here =
      let longer : take (i + 1) placed ≡ take i placed ++ p ∷ [] = take_more placed i p lt ∙ ap (λ (q : PlacedBody). take i placed ++ q ∷ []) (sym is) in
      subst (λ (ps : List PlacedBody). AddsAllCells types ps old new after) (sym longer) (adds_one_more (take i placed) p old mid new between after done here)

  pub all_bodies : (placed : List PlacedBody) (i : ℕ) (old new : Draft) (cells : Cells) → length placed ≤ i → AddsAllCells types (take i placed) old new cells → AddsAllCells types placed old new cells
  all_bodies placed i old new cells le h = subst (λ (ps : List PlacedBody). AddsAllCells types ps old new cells) (take_all i placed le) h
