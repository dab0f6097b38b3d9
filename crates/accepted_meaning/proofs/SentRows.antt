-- What the sites of a sound run are sent.
use Rattle.std.proofs.Common.{◌≡◌, ℕ, zero, suc, ◌+◌, ◌<◌, Bool, true, false, ◌||◌, List, [], ◌∷◌, ◌++◌, length, map, refl, sym, ap, subst, ◌∙◌, arith}
use Rattle.std.specs.Prelude.{Contains, ◌==◌, All}
use Rattle.std.specs.List.{flat_map, list_all}
use Rattle.std.proofs.lemmas.List.Elements.{All-contains}
use Rattle.hept_ast.specs.Scopes.{Clock, Text, Scope, input_decls}
use Rattle.hept_ast.specs.Parts.{Plain, Placed, parts}
use Rattle.hept_ast.specs.Initial.{grade}
use Rattle.hept_ast.specs.Types.{types_of}
use Rattle.hept_ast.specs.Meaning.{Gives, Present, Restarted, Value, Is}
use Rattle.hept_ast.specs.Outputs.{HaveValues}
use Rattle.hept_ast.specs.Sites.{Site, SentFrom, end, no_call, call, Sent}
use Rattle.hept_ast.specs.declared.tree.Expr.{Expr}
use Rattle.hept_ast.specs.declared.tree.Decl.{Decl}
use Rattle.hept_ast.specs.declared.tree.Node.{Node}
use Rattle.hept_ast.specs.declared.tree.Ty.{Ty}
use Rattle.hept_ast.specs.declared.tree.Equation.TheOpen.{Equation-F}
use Rattle.hept_ast.specs.TypedValues.{IsValueOf, RowFits, RowsFit}
use Rattle.accepted_meaning.specs.Ranges.{HasLeft, IsInRange}
use Rattle.sound_expressions.specs.Sound.{Within, Sound, SoundArguments, no_arguments, an_argument}
use Rattle.accepted_meaning.specs.Placing.{site_of}
use Rattle.accepted_meaning.specs.Running.{Run, StandsIn, setting_of, types_in, IsKnown}
use Rattle.accepted_meaning.specs.Asked.{IsScoped, IsAsked}
use Rattle.sound_expressions.proofs.FittedTypes.{all_true, one_of}
use Rattle.accepted_meaning.proofs.FitsWords.{IsTruth, as_is}
use Rattle.accepted_meaning.proofs.FitsTruths.{present_truth, restarted_truth}
use Rattle.accepted_meaning.proofs.FitsKept.{Texts, is_given, IsGiven}
use Rattle.accepted_meaning.proofs.Fits.{holds}
use Rattle.accepted_meaning.proofs.FitsTexts.{parts_of_scope, parts_are}
use Rattle.accepted_meaning.proofs.FitsInterfaces.{call_parts}
use Rattle.accepted_meaning.proofs.FitsStates.{contains_at}
use Rattle.accepted_meaning.proofs.KnownScopes.{Everything}
use Rattle.accepted_meaning.proofs.KnownScopes.{Texts as Known_texts}
use Rattle.accepted_meaning.proofs.KnownReached.{present_before}
use Rattle.accepted_meaning.proofs.SentSites.{IsSoundSite, HasLefts}

-- ---- arguments

head_type : (a b : Ty) (xs ys : List Ty) → a ∷ xs ≡ b ∷ ys → a ≡ b
head_type a b xs ys f = cc

tail_types : (a b : Ty) (xs ys : List Ty) → a ∷ xs ≡ b ∷ ys → xs ≡ ys
tail_types a b xs ys f = cc

-- values of arguments, one for each input
record Row (r : Run) (c : Clock) (s : Scope) (t : ℕ) (args : List Expr) (ds : List Decl) : Type 0 where
  values : List ℕ
  known : HaveValues (setting_of r) r.rows (map (λ e. Gives e c s t) args) values
  fits : RowFits (types_in r) ds values

module _ (r : Run) (texts : Texts r) (t : ℕ) (all : Everything r t) (k : Within) (s : Scope) (c : Clock) (stands : StandsIn r k s) (asked : IsAsked r s) (scoped : IsScoped r k s c) (here : IsKnown r (Present c s t) (Is true)) where
  argument_given : (e : Expr) (u : Ty) → Sound k (site_of s) e c (u ∷ []) → grade k.grade e.form ≡ false → (v : ℕ) × IsKnown r (Gives e c s t) (Value v) × IsValueOf (types_in r) u v
  argument_given e u sound defined =
      let known = all.gives k s e c (u ∷ []) stands asked sound scoped (record { type = u; is = refl }) in
      let g : IsGiven r u known.0 = is_given r (grade k.grade e.form) u c s t known.0 ((holds r texts (Gives e c s t) known.0 known.1).fits k u stands sound) defined here in
      (g.value, as_is r (Gives e c s t) known.0 (Value g.value) g.is known.1, g.fits)

  row_of : (args : List Expr) (tss : List (List Ty)) (ds : List Decl) → SoundArguments k (site_of s) args c tss → types_of ds ≡ flat_map (λ (x : List Ty). x) tss → list_all (λ (x : List Ty). length x == 1) tss ≡ true → Row r c s t args ds
  row_of args tss [] no_arguments types single = record { values = []; known = tt; fits = tt }
  row_of args tss (d ∷ ds) no_arguments types single = cc
  row_of args tss [] (an_argument {ts = ts} {tss = uss} sound defined rest) types single =
      let both = all_true (λ (x : List Ty). length x == 1) ts uss single in
      let (u, one) = one_of ts both.0 in
      let joined : [] ≡ u ∷ flat_map (λ (x : List Ty). x) uss = types ∙ ap (λ (x : List Ty). x ++ flat_map (λ (y : List Ty). y) uss) one in
      cc
  row_of args tss (d ∷ ds) (an_argument {e = arg} {es = es} {ts = ts} {tss = uss} sound defined rest) types single =
      let both = all_true (λ (x : List Ty). length x == 1) ts uss single in
      let (u, one) = one_of ts both.0 in
      let joined : types_of (d ∷ ds) ≡ u ∷ flat_map (λ (x : List Ty). x) uss = types ∙ ap (λ (x : List Ty). x ++ flat_map (λ (y : List Ty). y) uss) one in
      let same : d.ty ≡ u = head_type d.ty u (types_of ds) (flat_map (λ (x : List Ty). x) uss) joined in
      let later : Row r c s t es ds = row_of es uss ds rest (tail_types d.ty u (types_of ds) (flat_map (λ (x : List Ty). x) uss) joined) both.1 in
      let v = argument_given arg d.ty (subst (λ (x : Ty). Sound k (site_of s) arg c (x ∷ [])) (sym same) (subst (λ (x : List Ty). Sound k (site_of s) arg c x) one sound)) defined in
      record { values = v.0 ∷ later.values; known = (v.1, later.known); fits = (v.2, later.fits) }

-- ---- all instants

-- calls of a site from an instant on
record Sent_from (r : Run) (site : Site) (ds : List Decl) (again : Bool) (t left : ℕ) : Type 0 where
  calls : List (Bool × List ℕ)
  sent : SentFrom (setting_of r) r.rows site again t left calls
  fits : RowsFit (types_in r) ds (map (λ c. c.1) calls)

module _ (r : Run) (texts : Texts r) (known_texts : Known_texts r) (everything : (t : ℕ) → t < length r.rows → Everything r t) (site : Site) (sound : IsSoundSite r site) where
  site_row : (t : ℕ) → t < length r.rows → IsKnown r (Present site.clock site.scope t) (Is true) → Row r site.clock site.scope t site.args sound.callee.node.inputs
  site_row t less here =
      let fit = call_parts sound.callee.node sound.calls.given (types_of sound.callee.node.outputs) sound.calls.fits in
      row_of r texts t (everything t less) sound.within site.scope site.clock sound.stands sound.asked sound.scoped here site.args sound.calls.given sound.callee.node.inputs sound.calls.arguments fit.0 fit.1

  add_call : (again restarted : Bool) (t left : ℕ) → IsKnown r (Restarted site.scope t) (Is restarted) → IsKnown r (Present site.clock site.scope t) (Is true) →
      Row r site.clock site.scope t site.args sound.callee.node.inputs → Sent_from r site sound.callee.node.inputs false (suc t) left → Sent_from r site sound.callee.node.inputs again t (suc left)
  add_call again restarted t left was here row more =
      record { calls = (again || restarted, row.values) ∷ more.calls; sent = call was here row.known more.sent; fits = (row.fits, more.fits) }

  sent_from : (left t : ℕ) (again : Bool) → t + left ≡ length r.rows → Sent_from r site sound.callee.node.inputs again t left
  sent_from zero t again e = record { calls = []; sent = end; fits = tt }
  sent_from (suc left) t again e =
      let less : t < length r.rows = omega (arith, e) in
      let all : Everything r t = everything t less in
      let restart = all.restarted sound.within site.scope sound.stands sound.asked in
      let presence = present_before r known_texts sound.within site.scope t site.clock sound.stands sound.asked all sound.scoped in
      let again_is : IsTruth restart.0 = restarted_truth r site.scope t restart.0 restart.1 in
      let here_is : IsTruth presence.0 = present_truth r site.clock site.scope t presence.0 presence.1 in
      let was : IsKnown r (Restarted site.scope t) (Is again_is.truth) = as_is r (Restarted site.scope t) restart.0 (Is again_is.truth) again_is.is restart.1 in
      by_presence again_is.truth was here_is.truth (as_is r (Present site.clock site.scope t) presence.0 (Is here_is.truth) here_is.is presence.1) (λ b. sent_from left (suc t) b (omega (arith, e))) (λ h. site_row t less h)
    where
      by_presence : (b : Bool) → IsKnown r (Restarted site.scope t) (Is b) → (h : Bool) → IsKnown r (Present site.clock site.scope t) (Is h) → ((g : Bool) → Sent_from r site sound.callee.node.inputs g (suc t) left) →
          (IsKnown r (Present site.clock site.scope t) (Is true) → Row r site.clock site.scope t site.args sound.callee.node.inputs) → Sent_from r site sound.callee.node.inputs again t (suc left)
      by_presence b was true here more row = add_call again b t left was here (row here) (more false)
      by_presence b was false off more row = let m = more (again || b) in record { calls = m.calls; sent = no_call was off m.sent; fits = m.fits }

  pub sent_known : (calls : List (Bool × List ℕ)) × Sent (setting_of r) r.rows site calls × RowsFit (types_in r) (input_decls site.text) (map (λ c. c.1) calls)
  sent_known =
      let o : Sent_from r site sound.callee.node.inputs false 0 (length r.rows) = sent_from (length r.rows) 0 false (omega arith) in
      (o.calls, o.sent, subst (λ (x : Text). RowsFit (types_in r) (input_decls x) (map (λ c. c.1) o.calls)) (sym sound.calls.text_is) o.fits)

-- ---- programs in range have a name on each left side

pub lefts_of : (r : Run) → IsInRange r.program.program → HasLefts r
lefts_of r range k s e p right stands is =
    let q : Placed = record { site = site_of s; part = Plain p.0 [] right } in
    let inside : Contains (parts k.node) q = parts_of_scope r k s e q stands (subst (λ (qs : List Placed). Contains qs q) (sym (parts_are (site_of s) e (Equation-F.Define p [] right) is)) (0, omega arith, refl)) in
    let own : k.node ≡ stands.stands.of_node.node = ap (λ (x : Within). x.node) stands.stands.of_node.is in
    let node : Contains r.program.program.nodes stands.stands.of_node.node = contains_at r.program.program.nodes stands.stands.number stands.stands.of_node.node stands.stands.of_node.at in
    let each : All (λ x. HasLeft x.part) (parts stands.stands.of_node.node) = All-contains (λ n. All (λ x. HasLeft x.part) (parts n)) r.program.program.nodes stands.stands.of_node.node range.lefts node in
    All-contains (λ x. HasLeft x.part) (parts stands.stands.of_node.node) q each (subst (λ (n : Node). Contains (parts n) q) own inside)
