-- The steps by which the equations of a node are brought into normal form.
use Rattle.std.proofs.Common.{◌≡◌, ◌+◌, ◌<◌, inr, true, false, List, [], ◌∷◌, ◌++◌, Some, None, All, map, slice_get, remove, refl, sym, ap, subst, ◌∙◌, append_assoc, append-nil, arith}
use Rattle.std.proofs.lemmas.Bool.{false≢true}
use Rattle.std.proofs.lemmas.List.Elements.{All-head, All-nil, All-tail, All-push}
use Rattle.std.proofs.lemmas.List.Sums.{sum_by-cons, sum_by-append}
use Rattle.hept_ast.specs.Texts.{Name}
use Rattle.hept_ast.specs.Faults.{Judging, judge_expr}
use Rattle.hept_ast.specs.declared.tree.Core.{Core}
use Rattle.hept_ast.specs.declared.tree.CoreNode.{CoreNode}
use Rattle.hept_ast.specs.declared.tree.CoreEquation.{CoreEquation}
use Rattle.hept_ast.specs.declared.tree.Expr.{Expr}
use Rattle.hept_ast.specs.declared.tree.Form.{out-Form}
use Rattle.hept_ast.specs.declared.tree.Node.{Node}
use Rattle.hept_ast.specs.declared.tree.Ty.{Ty}
use Rattle.hept_ast.specs.declared.tree.TypeDec.{TypeDec}
use Rattle.core_rules.specs.Cores.{as_interface, core_decls, core_judging}
use Rattle.core_rules.specs.Cores.{HasNoCoreCycle}
use Rattle.core_rules.specs.WellFormed.{IsTypedEquation, IsWellFormed, IsWellFormedNode}
use Rattle.core_facts.specs.Static.{StaticCore}
use Rattle.core_naming.specs.Names.{IsNaming, IsNewName, Names, new_equation, variable_at, with_right}
use Rattle.core_naming.specs.Normal.{AreNormal, IsNormal, IsNormalRight, is_simple}
use Rattle.core_naming.proofs.KeptOutputs.{naming_keeps_outputs}
use Rattle.core_naming.proofs.KeptSites.{naming_keeps_sites}
use Rattle.naming_facts.specs.Kept.{NamingsKeepStatic}
use Rattle.naming_rules.specs.Normalised.{IsNormalised}
use Rattle.naming_rules.specs.Namings.{Namings, no_naming, one_more}
use Rattle.naming_rules.proofs.CyclesMoved.{naming_makes_no_cycle}
use Rattle.naming_rules.proofs.Namings.{namings_normalise}
use Rattle.naming_rules.proofs.WellNamed.{naming_keeps_well_formed}
use Rattle.normal_form.specs.declared.cut.Taken.{Taken}
use Rattle.normal_form.specs.declared.new_names.NewNames.{NewNames}
use Rattle.normal_form.specs.declared.nodes.Unsettled.{Unsettled}
use Rattle.normal_form.specs.Cuts.{CutsRight}
use Rattle.normal_form.specs.NewNames.{AreNewFor, IsNextName}
use Rattle.normal_form.specs.OneType.{IsTypeOf}
use Rattle.normal_form.specs.Settling.{Brings, CanBeNamed, Moves, MovesOnce, Normalises, Settles, core_around, equations_size, with_equations, with_left, with_one, with_variable}
use Rattle.normal_form.specs.Sizes.{large_inside}
use Rattle.normal_form.proofs.CutSteps.{first_removed}
use Rattle.normal_form.proofs.AddedNames.{adds_one}
use Rattle.normal_form.proofs.NamedTypes.{named_below_has_type}
use Rattle.normal_form.proofs.OneType.{one_type_is}
use Rattle.normal_form.proofs.Sizes.{naming_shrinks}
use Rattle.normal_form.proofs.TypedOperands.{HasOneType}
use Rattle.normal_form.proofs.Views.{out_Var}

-- ---- lists

all_middle : {X : Type 0} (P : X → Type 0) (xs ys : List X) (x : X) → All P (xs ++ x ∷ ys) → P x
all_middle P [] ys x h = All-head P x ys h
all_middle P (z ∷ zs) ys x h = all_middle P zs ys x (All-tail P z (zs ++ x ∷ ys) h)

map_append : {X Y : Type 0} (f : X → Y) (xs ys : List X) → map f (xs ++ ys) ≡ map f xs ++ map f ys
map_append f [] ys = refl
map_append f (x ∷ xs) ys = ap (λ l. f x ∷ l) (map_append f xs ys)

size_none : equations_size [] ≡ 0
unfolding equations_size
size_none = refl

pub size_more : (e : CoreEquation) (es : List CoreEquation) → equations_size (e ∷ es) ≡ large_inside e.right + 1 + equations_size es
unfolding equations_size
size_more e es = sum_by-cons (λ (d : CoreEquation). large_inside d.right + 1) e es

size_append : (es fs : List CoreEquation) → equations_size (es ++ fs) ≡ equations_size es + equations_size fs
unfolding equations_size
size_append es fs = sum_by-append (λ (d : CoreEquation). large_inside d.right + 1) es fs

-- ---- namings

namings_then : (core other last : Core) → Namings core other → Namings other last → Namings core last
namings_then core _ _ h no_naming = h
namings_then core _ _ h (one_more {core = o} {other = m} {last = l} k n) = one_more (namings_then core o m h k) n

brings_none : (core : Core) → Brings core core
brings_none core = record { namings = no_naming; still = λ n. refl }

brings_then : (core other last : Core) → Brings core other → Brings other last → Brings core last
brings_then core other last h k = record {
  namings = namings_then core other last h.namings k.namings;
  still = λ n. let e : other ≡ core = h.still n in k.still (subst IsNormal (sym e) n) ∙ e;
}

brings_one : (core other : Core) → IsNaming core other → (IsNormal core → ⊥) → Brings core other
brings_one core other n open_yet = record { namings = one_more no_naming n; still = λ k. absurd (open_yet k) }

module _ (types : List TypeDec) (before after : List CoreNode) where
  abbrev around : CoreNode → Core
  around node = core_around types before after node

  -- ---- what expressions of a node are judged by

  abbrev judging_of : CoreNode → List Node → Judging
  judging_of node nodes = record { types = types; nodes = nodes; node = as_interface node; seen = core_decls node; strong = false }

  same_judging : (node : CoreNode) (es fs : List CoreEquation) →
      core_judging (around (with_equations node es)) (with_equations node es) ≡ core_judging (around (with_equations node fs)) (with_equations node fs)
  same_judging node es fs =
      ap (judging_of (with_equations node es)) (map_append as_interface before (with_equations node es ∷ after) ∙ sym (map_append as_interface before (with_equations node fs ∷ after)))

  typed_equation : (node : CoreNode) (front back : List CoreEquation) (e : CoreEquation) → IsWellFormed (around (with_equations node (front ++ e ∷ back))) →
      IsTypedEquation (around (with_equations node (front ++ e ∷ back))) (with_equations node (front ++ e ∷ back)) e
  typed_equation node front back e w =
      let moved = with_equations node (front ++ e ∷ back) in
      let formed = all_middle (IsWellFormedNode (around moved)) before after moved w in
      all_middle (IsTypedEquation (around moved) moved) front back e formed.typed

  -- the type that was found is the one that a naming asks for
  type_found : (x : Name) (t : Taken) (ty : Ty) (r : Expr) (e : CoreEquation) (rest : Unsettled) → IsWellFormed (around (with_one e rest)) → IsTypeOf (core_judging (around rest.node) rest.node) t.named ty →
      Names x t.named t.clock.steps e.clock.steps e.right r → is_simple (out-Form t.named.form) ≡ false → is_simple (out-Form r.form) ≡ false →
      (judge_expr (core_judging (around (with_one e rest)) (with_one e rest)) t.named).types ≡ Some (ty ∷ [])
  type_found x t ty r e rest w h n l s =
      let j : Judging = core_judging (around (with_one e rest)) (with_one e rest) in
      let typed = typed_equation rest.node rest.node.equations rest.left e w in
      let other : r ≡ variable_at t.named.place x → ⊥ = λ i. false≢true (sym s ∙ ap (λ (q : Expr). is_simple (out-Form q.form)) i ∙ ap is_simple (out_Var x)) in
      let found : HasOneType j false t.named = named_below_has_type j x t.named t.clock.steps l e.clock.steps e.right r typed.types n typed.right other in
      let same : core_judging (around rest.node) rest.node ≡ j = same_judging rest.node rest.node.equations (rest.node.equations ++ e ∷ rest.left) in
      one_type_is j t.named ty (subst (λ (u : Judging). IsTypeOf u t.named ty) same h) found

  -- an equation that is not in normal form
  not_normal : (e : CoreEquation) (rest : Unsettled) → (IsNormalRight e.right → ⊥) → IsNormal (around (with_one e rest)) → ⊥
  not_normal e rest open_yet h =
      open_yet (all_middle (λ (d : CoreEquation). IsNormalRight d.right) rest.node.equations rest.left e
      (all_middle (λ (m : CoreNode). AreNormal m.equations) before after (with_one e rest) h))

  -- ---- one naming

  abbrev naming : (x : Name) (t : Taken) (ty : Ty) (r : Expr) (e : CoreEquation) (rest : Unsettled) → IsNewName (around (with_one e rest)) x →
      Names x t.named t.clock.steps e.clock.steps e.right r → is_simple (out-Form t.named.form) ≡ false →
      (judge_expr (core_judging (around (with_one e rest)) (with_one e rest)) t.named).types ≡ Some (ty ∷ []) →
      IsNaming (around (with_one e rest)) (around (with_one (with_right e r) (with_variable x t ty e.resets rest)))
  naming x t ty r e rest new n large typed = record {
    x = x;
    a = t.named;
    d = t.clock.steps;
    t = ty;
    front = before;
    node = with_one e rest;
    moved = with_one (with_right e r) (with_variable x t ty e.resets rest);
    back = after;
    types = refl;
    nodes = refl;
    others = refl;
    step = record {
      front = rest.node.equations;
      equation = e;
      back = rest.left;
      right = r;
      equations = refl;
      named = n;
      name = refl;
      inputs = refl;
      outputs = refl;
      locals = refl;
      others = sym (append_assoc rest.node.equations (with_right e r ∷ rest.left) (new_equation x t.named t.clock.steps e.resets ∷ []));
    };
    new = new;
    large = large;
    typed = typed;
  }

  pub named_once : (old new : NewNames) (x : Name) (t : Taken) (ty : Ty) (r : Expr) (e f : CoreEquation) (rest others : Unsettled) → CanBeNamed old (around (with_one e rest)) → IsNextName old new x →
      CutsRight x e.clock.steps e.right r (Some t) → IsTypeOf (core_judging (around rest.node) rest.node) t.named ty → f ≡ with_right e r → others ≡ with_variable x t ty e.resets rest →
      MovesOnce types before after new e rest f others false
  named_once old new x t ty r e f rest others sound next k h p q =
      let typed = type_found x t ty r e rest sound.well_formed h k.0 k.1 k.2 in
      let core = around (with_one e rest) in
      let last = around (with_one (with_right e r) (with_variable x t ty e.resets rest)) in
      let n : IsNaming core last = naming x t ty r e rest (next core sound.new).0 k.0 k.1 typed in
      let shrinks : large_inside r + large_inside t.named + 1 ≡ large_inside e.right = naming_shrinks x t.named t.clock.steps e.clock.steps e.right r k.0 k.1 k.2 in
      let longer = size_append rest.left (new_equation x t.named t.clock.steps e.resets ∷ []) in
      let one = size_more (new_equation x t.named t.clock.steps e.resets) [] in
      let none = size_none in
      subst (λ (d : CoreEquation). MovesOnce types before after new e rest d others false) (sym p)
      (subst (λ (u : Unsettled). MovesOnce types before after new e rest (with_right e r) u false) (sym q) (record {
        moves = record {
          brings = brings_one core last n (not_normal e rest k.3);
          sound = record { well_formed = naming_keeps_well_formed core last sound.well_formed n; new = (next core sound.new).1 last (adds_one core last sound.well_formed n) };
          same = refl;
          size = omega (arith, shrinks, longer, one, none);
        };
        normal = λ s. absurd (false≢true s);
        smaller = λ s. omega (arith, shrinks);
      }))

  pub settled_once : (old new : NewNames) (x : Name) (r : Expr) (e f : CoreEquation) (rest others : Unsettled) → CanBeNamed old (around (with_one e rest)) → IsNextName old new x →
      CutsRight x e.clock.steps e.right r None → f ≡ with_right e r → others ≡ rest → MovesOnce types before after new e rest f others true
  settled_once old new x r e f rest others sound next k p q =
      let same : f ≡ e = p ∙ ap (λ (z : Expr). with_right e z) k.0 in
      subst (λ (d : CoreEquation). MovesOnce types before after new e rest d others true) (sym same)
      (subst (λ (u : Unsettled). MovesOnce types before after new e rest e u true) (sym q) (record {
        moves = record {
          brings = brings_none (around (with_one e rest));
          sound = record { well_formed = sound.well_formed; new = (next (around (with_one e rest)) sound.new).1 (around (with_one e rest)) (λ y h. inr h) };
          same = refl;
          size = refl;
        };
        normal = λ s. k.1;
        smaller = λ s. absurd (false≢true (sym s));
      }))

  -- ---- many namings

  pub moves_none : (names : NewNames) (e : CoreEquation) (rest : Unsettled) → CanBeNamed names (around (with_one e rest)) → Moves types before after names e rest e rest
  moves_none names e rest sound = record { brings = brings_none (around (with_one e rest)); sound = sound; same = refl; size = refl }

  pub moves_then : (names more : NewNames) (e f g : CoreEquation) (rest others last : Unsettled) → Moves types before after names e rest f others → Moves types before after more f others g last →
      Moves types before after more e rest g last
  moves_then names more e f g rest others last h k = record {
    brings = brings_then _ _ _ h.brings k.brings;
    sound = k.sound;
    same = k.same ∙ h.same;
    size = k.size ∙ h.size;
  }

  -- ---- the equations of a node

  -- a node whose first equations are in normal form, with those that are left, after namings
  pub record Settling (names : NewNames) (node : CoreNode) (rest : Unsettled) : Type 0 where
    pub brings : Brings (around node) (around (with_left rest))
    pub sound : CanBeNamed names (around (with_left rest))
    pub normal : AreNormal rest.node.equations

  -- the first that is left is removed
  first_left : (e : CoreEquation) (rest others : Unsettled) (es : List CoreEquation) → rest.left ≡ e ∷ es → others ≡ record { node = rest.node; left = es } → with_left rest ≡ with_one e others
  first_left e rest others es p q =
      ap (λ (l : List CoreEquation). with_equations rest.node (rest.node.equations ++ l)) p ∙ ap (λ (u : Unsettled). with_one e u) (sym q)

  pub settling_requires : (names : NewNames) (node : CoreNode) (e : CoreEquation) (rest others : Unsettled) (es : List CoreEquation) → Settling names node rest → slice_get rest.left 0 ≡ Some e → es ≡ remove rest.left 0 →
      others ≡ record { node = rest.node; left = es } → CanBeNamed names (around (with_one e others))
  settling_requires names node e rest others es h g r q = subst (λ (m : CoreNode). CanBeNamed names (around m)) (first_left e rest others es (first_removed rest.left es e g r) q) h.sound

  -- what was settled stands behind those in normal form
  pushed : (f : CoreEquation) (rest last : Unsettled) → last ≡ record { node = with_equations rest.node (rest.node.equations ++ f ∷ []); left = rest.left } → with_one f rest ≡ with_left last
  pushed f rest last q =
      ap (λ (l : List CoreEquation). with_equations rest.node l) (sym (append_assoc rest.node.equations (f ∷ []) rest.left)) ∙ ap (λ (u : Unsettled). with_left u) (sym q)

  pub settling_more : (names more : NewNames) (node : CoreNode) (e f : CoreEquation) (rest others moved last : Unsettled) (es : List CoreEquation) → Settling names node rest → slice_get rest.left 0 ≡ Some e →
      es ≡ remove rest.left 0 → others ≡ record { node = rest.node; left = es } → Settles types before after more e others f moved →
      last ≡ record { node = with_equations moved.node (moved.node.equations ++ f ∷ []); left = moved.left } → Settling more node last × (equations_size last.left < equations_size rest.left)
  settling_more names more node e f rest others moved last es h g r q k p =
      let first = first_removed rest.left es e g r in
      let begin = first_left e rest others es first q in
      let end = pushed f moved last p in
      let brings : Brings (around (with_left rest)) (around (with_left last)) =
      subst (λ (m : CoreNode). Brings (around m) (around (with_left last))) (sym begin) (subst (λ (m : CoreNode). Brings (around (with_one e others)) (around m)) end k.moves.brings) in
      let done : moved.node.equations ≡ rest.node.equations = k.moves.same ∙ ap (λ (u : Unsettled). u.node.equations) q in
      let all : AreNormal (rest.node.equations ++ f ∷ []) = All-push (λ (d : CoreEquation). IsNormalRight d.right) rest.node.equations f h.normal k.normal in
      let old : equations_size rest.left ≡ large_inside e.right + 1 + equations_size es = ap equations_size first ∙ size_more e es in
      let left : equations_size others.left ≡ equations_size es = ap (λ (u : Unsettled). equations_size u.left) q in
      let now : equations_size last.left ≡ equations_size moved.left = ap (λ (u : Unsettled). equations_size u.left) p in
      let size = k.moves.size in (
        record {
          brings = brings_then _ _ _ h.brings brings;
          sound = subst (λ (m : CoreNode). CanBeNamed more (around m)) end k.moves.sound;
          normal = subst AreNormal (sym (ap (λ (u : Unsettled). u.node.equations) p ∙ ap (λ (l : List CoreEquation). l ++ f ∷ []) done)) all;
        },
        omega (arith, old, left, now, size),
      )

  pub settling_begins : (names : NewNames) (node : CoreNode) (rest : Unsettled) → CanBeNamed names (around node) → rest ≡ record { node = with_equations node []; left = node.equations } → Settling names node rest
  settling_begins names node rest sound q =
      subst (λ (u : Unsettled). Settling names node u) (sym q) (record { brings = brings_none (around node); sound = sound; normal = All-nil (λ (d : CoreEquation). IsNormalRight d.right) })

  pub settling_ends : (names : NewNames) (node : CoreNode) (rest : Unsettled) → Settling names node rest → rest.left ≡ [] → Normalises types before after names node rest.node
  settling_ends names node rest h e =
      let same : with_left rest ≡ rest.node = ap (λ (l : List CoreEquation). with_equations rest.node (rest.node.equations ++ l)) e ∙ ap (with_equations rest.node) (append-nil rest.node.equations) in
      record {
        brings = subst (λ (m : CoreNode). Brings (around node) (around m)) same h.brings;
        sound = subst (λ (m : CoreNode). CanBeNamed names (around m)) same h.sound;
        normal = h.normal;
      }

-- ---- the nodes of a core

-- the nodes up to those that are left are in normal form, after namings
pub record Normalising (names : NewNames) (core : Core) (types : List TypeDec) (done left : List CoreNode) : Type 0 where
  pub brings : Brings core (record { types = types; nodes = done ++ left })
  pub sound : CanBeNamed names (record { types = types; nodes = done ++ left })
  pub normal : All (λ (node : CoreNode). AreNormal node.equations) done

pub normalising_begins : (names : NewNames) (core : Core) (done : List CoreNode) → IsWellFormed core → AreNewFor names core → done ≡ [] → Normalising names core core.types done core.nodes
normalising_begins names core done w a e =
    subst (λ (l : List CoreNode). Normalising names core core.types l core.nodes) (sym e)
    (record { brings = brings_none core; sound = record { well_formed = w; new = a }; normal = All-nil (λ (n : CoreNode). AreNormal n.equations) })

pub normalising_requires : (names : NewNames) (core : Core) (types : List TypeDec) (done left rest : List CoreNode) (node : CoreNode) → Normalising names core types done left → slice_get left 0 ≡ Some node →
    rest ≡ remove left 0 → CanBeNamed names (core_around types done rest node)
normalising_requires names core types done left rest node h g r =
    subst (λ (l : List CoreNode). CanBeNamed names (record { types = types; nodes = done ++ l })) (first_removed left rest node g r) h.sound

pub normalising_more : (names more : NewNames) (core : Core) (types : List TypeDec) (done left rest longer : List CoreNode) (node other : CoreNode) → Normalising names core types done left →
    slice_get left 0 ≡ Some node → rest ≡ remove left 0 → Normalises types done rest more node other → longer ≡ done ++ other ∷ [] → Normalising more core types longer rest
normalising_more names more core types done left rest longer node other h g r k p =
    let first = first_removed left rest node g r in
    let end : done ++ other ∷ rest ≡ longer ++ rest = sym (append_assoc done (other ∷ []) rest) ∙ ap (λ (l : List CoreNode). l ++ rest) (sym p) in
    let start : Brings core (core_around types done rest node) = subst (λ (l : List CoreNode). Brings core (record { types = types; nodes = done ++ l })) first h.brings in
    record {
      brings = subst (λ (l : List CoreNode). Brings core (record { types = types; nodes = l })) end (brings_then _ _ _ start k.brings);
      sound = subst (λ (l : List CoreNode). CanBeNamed more (record { types = types; nodes = l })) end k.sound;
      normal = subst (λ (l : List CoreNode). All (λ (n : CoreNode). AreNormal n.equations) l) (sym p) (All-push (λ (n : CoreNode). AreNormal n.equations) done other h.normal k.normal);
    }

-- all nodes are in normal form
normalised : (names : NewNames) (core : Core) (types : List TypeDec) (done left : List CoreNode) → Normalising names core types done left → left ≡ [] →
    Brings core (record { types = types; nodes = done }) × IsNormal (record { types = types; nodes = done })
normalised names core types done left h e =
    (subst (λ (l : List CoreNode). Brings core (record { types = types; nodes = l })) (ap (λ (l : List CoreNode). done ++ l) e ∙ append-nil done) h.brings, h.normal)

pub normalising_ends : (names : NewNames) (core : Core) (types : List TypeDec) (done left : List CoreNode) → IsWellFormed core → HasNoCoreCycle core → Normalising names core types done left → left ≡ [] →
    IsNormalised core (record { types = types; nodes = done })
normalising_ends names core types done left w a h e =
    let k = normalised names core types done left h e in
    namings_normalise naming_keeps_outputs naming_keeps_sites naming_keeps_well_formed naming_makes_no_cycle core (record { types = types; nodes = done }) w a k.0.namings k.1

pub normalising_names : (names : NewNames) (core : Core) (types : List TypeDec) (done left : List CoreNode) → Normalising names core types done left → left ≡ [] → Namings core (record { types = types; nodes = done })
normalising_names names core types done left h e = (normalised names core types done left h e).0.namings

pub normalising_stays : (names : NewNames) (core : Core) (types : List TypeDec) (done left : List CoreNode) → Normalising names core types done left → left ≡ [] → IsNormal core → record { types = types; nodes = done } ≡ core
normalising_stays names core types done left h e n = (normalised names core types done left h e).0.still n

pub normalising_static : NamingsKeepStatic → (names : NewNames) (core : Core) (types : List TypeDec) (done left : List CoreNode) → IsWellFormed core → Normalising names core types done left → left ≡ [] → StaticCore core →
    StaticCore (record { types = types; nodes = done })
normalising_static keeps names core types done left w h e s = keeps core (record { types = types; nodes = done }) w (normalised names core types done left h e).0.namings s
