-- Naming a subexpression of a core keeps what is sent to a site.
use Rattle.std.proofs.Common.{◌↔◌, ℕ, suc, Bool, false, List, [], ◌∷◌, map, length, sym, subst}
use Rattle.std.specs.List.{find}
use Rattle.std.specs.Option.{option_map}
use Rattle.hept_ast.specs.Texts.{same}
use Rattle.hept_ast.specs.Scopes.{Clock, Lowered, Scope}
use Rattle.hept_ast.specs.Meaning.{Gives, Present, Restarted, Answer, Value, Setting}
use Rattle.hept_ast.specs.Outputs.{Knows, HaveValues}
use Rattle.hept_ast.specs.Settings.{Marks, Replies, of_core}
use Rattle.hept_ast.specs.Sites.{Site, SentFrom, Sent, end, no_call, call, argument_questions}
use Rattle.hept_ast.specs.declared.tree.Core.{Core}
use Rattle.hept_ast.specs.declared.tree.Expr.{Expr}
use Rattle.hept_ast.specs.declared.tree.TypeDec.{TypeDec}
use Rattle.core_rules.specs.WellFormed.{IsWellFormed}
use Rattle.core_naming.specs.NamingLaws.{NamingKeepsSent}
use Rattle.core_naming.specs.Names.{IsNaming}
use Rattle.core_naming.specs.Ties.{clock_names, TiedArguments, no_arguments, more_arguments, TiedSite}
use Rattle.core_naming.proofs.Mentions.{NotIn}
use Rattle.core_naming.proofs.TiedTexts.{IsQuiet}
use Rattle.core_naming.proofs.TiedQuestions.{w, v, TiedIn, gives, present, restarted}
use Rattle.core_naming.proofs.NewVariable.{knows_there, knows_back}
use Rattle.core_naming.proofs.NewNames.{naming_is_quiet}

-- where the answers on a site are those on another, it is sent the same
module _ (a b : Setting) (rows : List (List ℕ)) (site moved : Site)
    (is_restarted : (t : ℕ) (u : Answer) → Knows a rows (Restarted site.scope t) u → Knows b rows (Restarted moved.scope t) u)
    (is_present : (t : ℕ) (u : Answer) → Knows a rows (Present site.clock site.scope t) u → Knows b rows (Present moved.clock moved.scope t) u)
    (values : (t : ℕ) (us : List ℕ) → HaveValues a rows (argument_questions site t) us → HaveValues b rows (argument_questions moved t) us) where
  sent_carried : (again : Bool) (t left : ℕ) (calls : List (Bool × List ℕ)) → SentFrom a rows site again t left calls → SentFrom b rows moved again t left calls
  sent_carried again t left calls end = end
  sent_carried again t left calls (no_call {left = rest} r p l) = no_call (is_restarted t _ r) (is_present t _ p) (sent_carried _ (suc t) rest calls l)
  sent_carried again t left calls (call {left = rest} {args = us} {calls = more} r p k l) =
      call (is_restarted t _ r) (is_present t _ p) (values t us k) (sent_carried false (suc t) rest more l)

module _ (core other : Core) (n : IsNaming core other) (marked : Marks) (replies : Replies) (formed : IsWellFormed core) (rows : List (List ℕ)) where
  abbrev quiet : IsQuiet core other n
  quiet = naming_is_quiet core other n formed

  abbrev first : Setting
  first = w core other n marked replies quiet

  abbrev second : Setting
  second = v core other n marked replies quiet

  values_there : (s r : Scope) (c : Clock) (t : ℕ) {es ms : List Expr} → TiedIn core other n s r → NotIn n.x (clock_names c) → TiedArguments core other n s r c es ms → (us : List ℕ) →
      HaveValues first rows (map (λ e. Gives e c s t) es) us → HaveValues second rows (map (λ e. Gives e c r t) ms) us
  values_there s r c t h f no_arguments [] k = tt
  values_there s r c t h f no_arguments (u ∷ us) k = elim k [ ]
  values_there s r c t h f (more_arguments l ls) [] k = elim k [ ]
  values_there s r c t h f (more_arguments l ls) (u ∷ us) k =
      (knows_there core other n marked replies quiet rows _ _ (Value u) (gives h f l) k.0, values_there s r c t h f ls us k.1)

  values_back : (s r : Scope) (c : Clock) (t : ℕ) {es ms : List Expr} → TiedIn core other n s r → NotIn n.x (clock_names c) → TiedArguments core other n s r c es ms → (us : List ℕ) →
      HaveValues second rows (map (λ e. Gives e c r t) ms) us → HaveValues first rows (map (λ e. Gives e c s t) es) us
  values_back s r c t h f no_arguments [] k = tt
  values_back s r c t h f no_arguments (u ∷ us) k = elim k [ ]
  values_back s r c t h f (more_arguments l ls) [] k = elim k [ ]
  values_back s r c t h f (more_arguments l ls) (u ∷ us) k =
      (knows_back core other n marked replies quiet rows _ _ (Value u) (gives h f l) k.0, values_back s r c t h f ls us k.1)

  module _ (site moved : Site) (tie : TiedSite core other n site moved) (calls : List (Bool × List ℕ)) where
    sent_there : Sent first rows site calls → Sent second rows moved calls
    sent_there k =
        sent_carried first second rows site moved
        (λ t u l. knows_there core other n marked replies quiet rows _ _ u (restarted tie.scope) l)
        (λ t u l. subst (λ (c : Clock). Knows second rows (Present c moved.scope t) u) (sym tie.clock) (knows_there core other n marked replies quiet rows _ _ u (present tie.scope tie.free) l))
        (λ t us l. subst (λ (c : Clock). HaveValues second rows (map (λ e. Gives e c moved.scope t) moved.args) us) (sym tie.clock)
        (values_there site.scope moved.scope site.clock t tie.scope tie.free tie.args us l))
        false 0 (length rows) calls k

    sent_back : Sent second rows moved calls → Sent first rows site calls
    sent_back k =
        sent_carried second first rows moved site
        (λ t u l. knows_back core other n marked replies quiet rows _ _ u (restarted tie.scope) l)
        (λ t u l. knows_back core other n marked replies quiet rows _ _ u (present tie.scope tie.free) (subst (λ (c : Clock). Knows second rows (Present c moved.scope t) u) tie.clock l))
        (λ t us l. values_back site.scope moved.scope site.clock t tie.scope tie.free tie.args us
        (subst (λ (c : Clock). HaveValues second rows (map (λ e. Gives e c moved.scope t) moved.args) us) tie.clock l))
        false 0 (length rows) calls k

pub naming_keeps_sent : NamingKeepsSent
naming_keeps_sent core other n marked replies site moved rows calls formed tie =
    subst (λ (types : List TypeDec). Sent (of_core core marked replies) rows site calls
    ↔ Sent (record (of_core core marked replies) { types = types; node = λ f. option_map Lowered (find (λ m. same f m.name) other.nodes) }) rows moved calls)
    (sym n.types)
    (sent_there core other n marked replies formed rows site moved tie calls, sent_back core other n marked replies formed rows site moved tie calls)
