-- What the body of a site's call gives, which is what its node gives alone.
use Rattle.std.proofs.Common.{◌≡◌, ℕ, zero, suc, ◌+◌, ◌<◌, Bool, true, false, List, [], ◌∷◌, Some, length, map, refl, sym, ap, subst, ◌∙◌, arith}
use Rattle.std.specs.Prelude.{slice_get}
use Rattle.hept_ast.specs.Texts.{names}
use Rattle.hept_ast.specs.Scopes.{Scope, Called, output_decls}
use Rattle.hept_ast.specs.Meaning.{Variable, Present, Value, Is}
use Rattle.hept_ast.specs.Outputs.{HaveValues}
use Rattle.hept_ast.specs.Sites.{Site}
use Rattle.hept_ast.specs.Calls.{BodyGives, no_more, is_absent, is_present}
use Rattle.hept_ast.specs.declared.tree.Decl.{Decl}
use Rattle.hept_ast.specs.TypedValues.{RowFits, RowsFit}
use Rattle.accepted_meaning.specs.Running.{Run, StandsIn, setting_of, types_in, IsKnown}
use Rattle.accepted_meaning.specs.Asked.{IsAsked}
use Rattle.accepted_meaning.proofs.FitsWords.{IsTruth, as_is}
use Rattle.accepted_meaning.proofs.FitsTruths.{present_truth}
use Rattle.accepted_meaning.proofs.FitsKept.{Texts, is_given, IsGiven}
use Rattle.accepted_meaning.proofs.Fits.{holds}
use Rattle.accepted_meaning.proofs.FitsCalls.{called_on}
use Rattle.accepted_meaning.proofs.FitsInterfaces.{output_of}
use Rattle.accepted_meaning.proofs.KnownScopes.{Everything}
use Rattle.accepted_meaning.proofs.KnownScopes.{Texts as Known_texts}
use Rattle.accepted_meaning.proofs.KnownReached.{present_before}
use Rattle.accepted_meaning.proofs.SentSites.{IsSoundSite}

abbrev body_of : Site → Scope
body_of site = Called site.scope site.clock site.place site.args site.text

-- outputs of a call's body at one instant
record Out_row (r : Run) (site : Site) (t : ℕ) (ds : List Decl) : Type 0 where
  values : List ℕ
  known : HaveValues (setting_of r) r.rows (map (λ x. Variable x (body_of site) t) (names ds)) values
  fits : RowFits (types_in r) ds values

-- and from one instant on
record Outs_from (r : Run) (site : Site) (ds : List Decl) (t left : ℕ) : Type 0 where
  outs : List (List ℕ)
  gives : BodyGives (setting_of r) r.rows site t left outs
  fits : RowsFit (types_in r) ds outs

module _ (r : Run) (texts : Texts r) (known_texts : Known_texts r) (everything : (t : ℕ) → t < length r.rows → Everything r t) (site : Site) (sound : IsSoundSite r site) where
  body_stands : StandsIn r sound.callee (body_of site)
  body_stands = subst (λ (n : ℕ). StandsIn r sound.callee (Called site.scope site.clock n site.args site.text)) sound.place sound.calls.stands

  body_asked : IsAsked r (body_of site)
  body_asked = (sound.within, sound.callee, sound.call, sound.asked, sound.stands, sound.calls, sound.place, sound.scoped)

  out_row : (t : ℕ) → t < length r.rows → IsKnown r (Present site.clock site.scope t) (Is true) → (ds : List Decl) → ((j : ℕ) (d : Decl) → slice_get ds j ≡ Some d → (i : ℕ) × (slice_get sound.callee.node.outputs i ≡ Some d)) →
      Out_row r site t ds
  out_row t less here [] at = record { values = []; known = tt; fits = tt }
  out_row t less here (d ∷ ds) at =
      let o = at 0 d refl in
      let own = output_of r sound.callee body_stands.number o.0 d body_stands.of_node o.1 in
      let known = (everything t less).variables sound.callee (body_of site) d.name d [] body_stands body_asked own.0 tt in
      let g : IsGiven r d.ty known.0 = is_given r (sound.callee.grade d.name) d.ty [] (body_of site) t known.0
      ((holds r texts (Variable d.name (body_of site) t) known.0 known.1).fits sound.callee d [] body_stands own.0) own.1 (called_on r site.scope site.clock site.place site.args site.text t here) in
      let more : Out_row r site t ds = out_row t less here ds (λ j e f. at (suc j) e f) in
      record { values = g.value ∷ more.values; known = (as_is r (Variable d.name (body_of site) t) known.0 (Value g.value) g.is known.1, more.known); fits = (g.fits, more.fits) }

  outputs_are : output_decls site.text ≡ sound.callee.node.outputs
  outputs_are = ap output_decls sound.calls.text_is

  own_row : (t : ℕ) → t < length r.rows → IsKnown r (Present site.clock site.scope t) (Is true) → Out_row r site t (output_decls site.text)
  own_row t less here = out_row t less here (output_decls site.text) (λ j d e. (j, ap (λ (ds : List Decl). slice_get ds j) (sym outputs_are) ∙ e))

  outs_from : (left t : ℕ) → t + left ≡ length r.rows → Outs_from r site (output_decls site.text) t left
  outs_from zero t e = record { outs = []; gives = no_more; fits = tt }
  outs_from (suc left) t e =
      let less : t < length r.rows = omega (arith, e) in
      let presence = present_before r known_texts sound.within site.scope t site.clock sound.stands sound.asked (everything t less) sound.scoped in
      let here_is : IsTruth presence.0 = present_truth r site.clock site.scope t presence.0 presence.1 in
      by_presence here_is.truth (as_is r (Present site.clock site.scope t) presence.0 (Is here_is.truth) here_is.is presence.1) (outs_from left (suc t) (omega (arith, e))) (λ h. own_row t less h)
    where
      by_presence : (h : Bool) → IsKnown r (Present site.clock site.scope t) (Is h) → Outs_from r site (output_decls site.text) (suc t) left →
          (IsKnown r (Present site.clock site.scope t) (Is true) → Out_row r site t (output_decls site.text)) → Outs_from r site (output_decls site.text) t (suc left)
      by_presence true here more row = let o = row here in record { outs = o.values ∷ more.outs; gives = is_present here o.known more.gives; fits = (o.fits, more.fits) }
      by_presence false off more row = record { outs = more.outs; gives = is_absent off more.gives; fits = more.fits }

  pub body_known : (outs : List (List ℕ)) × BodyGives (setting_of r) r.rows site 0 (length r.rows) outs × RowsFit (types_in r) (output_decls site.text) outs
  body_known = let o : Outs_from r site (output_decls site.text) 0 (length r.rows) = outs_from (length r.rows) 0 (omega arith) in (o.outs, o.gives, o.fits)
