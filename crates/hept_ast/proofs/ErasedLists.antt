-- The lists of outputs and of calls of a program and of the erased program are the same.
use Rattle.std.proofs.Common.{◌≡◌, ℕ, suc, Bool, List, [], ◌∷◌, map, refl, sym, ap, subst, ◌∙◌}
use Rattle.hept_ast.specs.Texts.{Name}
use Rattle.hept_ast.specs.Scopes.{Text, Top, outputs_of}
use Rattle.hept_ast.specs.Meaning.{Question, Gives, Variable, Present, Restarted, Value, Setting}
use Rattle.hept_ast.specs.Outputs.{HaveValues, output_questions, OutputsFrom, Outputs}
use Rattle.hept_ast.specs.Settings.{of_program}
use Rattle.hept_ast.specs.Sites.{Site, argument_questions, SentFrom, end, no_call, call, Sent}
use Rattle.hept_ast.specs.Erasure.{erased_expr}
use Rattle.hept_ast.specs.ErasedScopes.{erased_text, erased_scope, erased_question, erased_setting, erased_site}
use Rattle.hept_ast.specs.Laws.{OutputsOfErased, ErasedKeepsSent, SentOfErased}
use Rattle.hept_ast.specs.declared.tree.Expr.{Expr}
use Rattle.hept_ast.proofs.ErasedTexts.{outputs_is}
use Rattle.hept_ast.proofs.ErasedMeaning.{erased_knows, setting_is}
use Rattle.hept_ast.proofs.ErasedBack.{known_back}

values_there : (w : Setting) (rows : List (List ℕ)) (qs : List Question) (vs : List ℕ) → HaveValues w rows qs vs → HaveValues (erased_setting w) rows (map erased_question qs) vs
values_there w rows [] [] h = tt
values_there w rows [] (v ∷ vs) h = elim h [ ]
values_there w rows (q ∷ qs) [] h = elim h [ ]
values_there w rows (q ∷ qs) (v ∷ vs) h = (erased_knows w rows q (Value v) h.0, values_there w rows qs vs h.1)

values_back : (w : Setting) (rows : List (List ℕ)) (qs : List Question) (vs : List ℕ) → HaveValues (erased_setting w) rows (map erased_question qs) vs → HaveValues w rows qs vs
values_back w rows [] [] h = tt
values_back w rows [] (v ∷ vs) h = elim h [ ]
values_back w rows (q ∷ qs) [] h = elim h [ ]
values_back w rows (q ∷ qs) (v ∷ vs) h = (known_back w rows q (Value v) h.0, values_back w rows qs vs h.1)

variables_are : (text : Text) (t : ℕ) (xs : List Name) → map erased_question (map (λ x. Variable x (Top text) t) xs) ≡ map (λ x. Variable x (Top (erased_text text)) t) xs
variables_are text t [] = refl
variables_are text t (x ∷ xs) = ap (λ (qs : List Question). Variable x (Top (erased_text text)) t ∷ qs) (variables_are text t xs)

outputs_are : (text : Text) (t : ℕ) → map erased_question (output_questions text t) ≡ output_questions (erased_text text) t
outputs_are text t = variables_are text t (outputs_of text) ∙ ap (λ (xs : List Name). map (λ x. Variable x (Top (erased_text text)) t) xs) (sym (outputs_is text))

from_back : (w : Setting) (rows : List (List ℕ)) (text : Text) (t : ℕ) (left outs : List (List ℕ)) →
    OutputsFrom (erased_setting w) rows (erased_text text) t left outs → OutputsFrom w rows text t left outs
from_back w rows text t [] [] h = tt
from_back w rows text t [] (out ∷ outs) h = elim h [ ]
from_back w rows text t (row ∷ left) [] h = elim h [ ]
from_back w rows text t (row ∷ left) (out ∷ outs) h = (
  values_back w rows (output_questions text t) out (subst (λ (qs : List Question). HaveValues (erased_setting w) rows qs out) (sym (outputs_are text t)) h.0),
  from_back w rows text (suc t) left outs h.1,
)

pub outputs_of_erased : OutputsOfErased
outputs_of_erased p clock marked replies text rows outs h =
    from_back (of_program p clock marked replies) rows text 0 rows outs
    (subst (λ (w : Setting). Outputs w (erased_text text) rows outs) (setting_is p clock marked replies) h)

arguments_are : (site : Site) (t : ℕ) (es : List Expr) →
    map erased_question (map (λ e. Gives e site.clock site.scope t) es) ≡ map (λ e. Gives e site.clock (erased_scope site.scope) t) (map erased_expr es)
arguments_are site t [] = refl
arguments_are site t (e ∷ es) = ap (λ (qs : List Question). Gives (erased_expr e) site.clock (erased_scope site.scope) t ∷ qs) (arguments_are site t es)

sent_there : (w : Setting) (rows : List (List ℕ)) (site : Site) (again : Bool) (t left : ℕ) (calls : List (Bool × List ℕ)) →
    SentFrom w rows site again t left calls → SentFrom (erased_setting w) rows (erased_site site) again t left calls
sent_there w rows site again t _ _ end = end
sent_there w rows site again t _ _ (no_call r p rest) = no_call (erased_knows w rows _ _ r) (erased_knows w rows _ _ p) (sent_there w rows site _ _ _ _ rest)
sent_there w rows site again t _ _ (call {args = args} r p v rest) =
    call (erased_knows w rows _ _ r) (erased_knows w rows _ _ p)
    (subst (λ (qs : List Question). HaveValues (erased_setting w) rows qs args) (arguments_are site t site.args) (values_there w rows (argument_questions site t) args v))
    (sent_there w rows site _ _ _ _ rest)

sent_back : (w : Setting) (rows : List (List ℕ)) (site : Site) (again : Bool) (t left : ℕ) (calls : List (Bool × List ℕ)) →
    SentFrom (erased_setting w) rows (erased_site site) again t left calls → SentFrom w rows site again t left calls
sent_back w rows site again t _ _ end = end
sent_back w rows site again t _ _ (no_call r p rest) =
    no_call (known_back w rows (Restarted site.scope t) _ r) (known_back w rows (Present site.clock site.scope t) _ p) (sent_back w rows site _ _ _ _ rest)
sent_back w rows site again t _ _ (call {args = args} r p v rest) =
    call (known_back w rows (Restarted site.scope t) _ r) (known_back w rows (Present site.clock site.scope t) _ p)
    (values_back w rows (argument_questions site t) args (subst (λ (qs : List Question). HaveValues (erased_setting w) rows qs args) (sym (arguments_are site t site.args)) v))
    (sent_back w rows site _ _ _ _ rest)

pub erased_keeps_sent : ErasedKeepsSent
erased_keeps_sent p clock marked replies site rows calls h =
    subst (λ (w : Setting). Sent w rows (erased_site site) calls) (sym (setting_is p clock marked replies))
    (sent_there (of_program p clock marked replies) rows site _ _ _ calls h)

pub sent_of_erased : SentOfErased
sent_of_erased p clock marked replies site rows calls h =
    sent_back (of_program p clock marked replies) rows site _ _ _ calls
    (subst (λ (w : Setting). Sent w rows (erased_site site) calls) (setting_is p clock marked replies) h)
