-- What a call gives: its node's body, where its arguments have values, or a reply.
use Rattle.std.proofs.Common.{◌≡◌, ℕ, suc, ◌<◌, ◌≤◌, ◌+◌, Bool, true, false, List, [], ◌∷◌, ◌++◌, Option, Some, None, refl, sym, ap, subst, arith}
use Rattle.std.specs.Prelude.{if◌then◌else◌, ⊤, Contains, slice_get, slice_index, slice_index_or}
use Rattle.std.specs.List.{find}
use Rattle.std.specs.Option.{option_map}
use Rattle.hept_ast.specs.Texts.{Name, same, is_in, names, place_in}
use Rattle.hept_ast.specs.Scopes.{Clock, Text, Scope, Called, Under, Lowered, calls_around}
use Rattle.hept_ast.specs.Parts.{declaration}
use Rattle.hept_ast.specs.Types.{types_of}
use Rattle.hept_ast.specs.Meaning.{Gives, Output, Variable, Defined, Active, Restarted, Value, Is, Rule, answer_to, argument_rule, output_rule, outputs_rule, reply_or}
use Rattle.hept_ast.specs.Outputs.{said, asked}
use Rattle.hept_ast.specs.declared.tree.Form.{Form, out-Form}
use Rattle.hept_ast.specs.declared.tree.Form.TheOpen.{Form-F}
use Rattle.hept_ast.specs.declared.tree.Expr.{Expr}
use Rattle.hept_ast.specs.declared.tree.MergeBranch.{MergeBranch}
use Rattle.hept_ast.specs.declared.tree.CoreNode.{CoreNode}
use Rattle.hept_ast.specs.declared.tree.Decl.{Decl}
use Rattle.hept_ast.specs.declared.tree.Ty.{Ty}
use Rattle.hept_ast.specs.TypedValues.{IsValueOf}
use Rattle.core_fitting.specs.Sound.{IsCall, IsNamed, Reads, SoundCore, Within, async, expressions_in, results, sync, within}
use Rattle.core_fitting.specs.Holding.{Run, IsKnown, setting_of, types_in, Here, active, no_step, HasInput, Holds, RepliesFit, Surrounded, VariableFits, off, on, own_call}
use Rattle.core_fitting.proofs.Presence.{Comes, Restarts, counts, known_by, present_under, restarted_under}
use Rattle.core_fitting.proofs.Fitting.{HasValue, contains_at, fits_at, has_value, input_declared, name_at, result_at, same_some, value_at}

-- arguments have values of the inputs' types
abbrev pub Inputs : Run → Scope → ℕ → List Expr → Clock → List Decl → Type 0
Inputs r u p [] c [] = ⊤
Inputs r u p (e ∷ es) c (d ∷ ds) = HasValue r (Gives e c u p) d.ty × Inputs r u p es c ds
Inputs r u p _ c _ = ⊥

-- each output of a call has a value
abbrev pub CallGives : Run → Scope → ℕ → Expr → Clock → List Ty → Type 0
CallGives r u t e c ts = (j : ℕ) (y : Ty) → slice_get ts j ≡ Some y → HasValue r (Output e j c u t) y

-- the argument of an input
record ArgumentAt (r : Run) (u : Scope) (p : ℕ) (c : Clock) (args : List Expr) (j : ℕ) (d : Decl) : Type 0 where
  argument : Expr
  at : slice_get args j ≡ Some argument
  value : HasValue r (Gives argument c u p) d.ty

argument_next : (r : Run) (u : Scope) (p : ℕ) (c : Clock) (e : Expr) (args : List Expr) (j : ℕ) (d : Decl) → ArgumentAt r u p c args j d → ArgumentAt r u p c (e ∷ args) (j + 1) d
argument_next r u p c e args j d h = record { argument = h.argument; at = let i : j + 1 ≡ suc j = omega arith in subst (λ (n : ℕ). slice_get (e ∷ args) n ≡ Some h.argument) (sym i) h.at; value = h.value }

no_declaration : {P : Type 0} (x : Name) (d : Decl) → declaration [] x ≡ Some d → P
no_declaration x d h = cc

argument_at : (r : Run) (u : Scope) (p : ℕ) (c : Clock) (args : List Expr) (ds : List Decl) → Inputs r u p args c ds → (x : Name) (d : Decl) → declaration ds x ≡ Some d → ArgumentAt r u p c args (place_in x (names ds)) d
argument_at r u p c [] [] given x d h = no_declaration x d h
argument_at r u p c (e ∷ args) [] given x d h = no_declaration x d h
argument_at r u p c [] (b ∷ ds) given x d h = elim given [ ]
argument_at r u p c (e ∷ args) (b ∷ ds) given x d h = go (same x b.name) h (argument_at r u p c args ds given.1 x d)
  where
    go : (i : Bool) → (if i then Some b else declaration ds x) ≡ Some d → (declaration ds x ≡ Some d → ArgumentAt r u p c args (place_in x (names ds)) d) →
        ArgumentAt r u p c (e ∷ args) (if i then 0 else place_in x (names ds) + 1) d
    go true g later = record { argument = e; at = refl; value = subst (λ (z : Decl). HasValue r (Gives e c u p) z.ty) (same_some b d g) given.0 }
    go false g later = argument_next r u p c e args (place_in x (names ds)) d (later g)

module _ (r : Run) (sound : SoundCore r.core) (k : Within) (s : Scope) (t : ℕ) (rs : List Name)
    (again : (q : ℕ) → q ≤ t → Restarts r s q rs) (replies : RepliesFit r k.node (calls_around s)) where
  -- a node that is called, with its grades
  abbrev pub callee : (f : Name) (g : CoreNode) → IsNamed r.core f g → Within
  callee f g named = within f g (sound.nodes f g named).0

  module _ (e : Expr) (c : Clock) (f : Name) (args : List Expr) (future : Bool) (g : CoreNode) (call : IsCall e f args future) (named : IsNamed r.core f g) (stands : Contains (expressions_in k.node) e)
      (here : (p : ℕ) → p ≤ t → (b : Bool) × Here r s p c b) (given : (p : ℕ) → p ≤ t → Here r s p c true → Inputs r (Under s rs) p args c g.inputs) where
    abbrev pub body : Scope
    body = Called (Under s rs) c e.place.0 args (Lowered g)

    active_body : (p : ℕ) (b : Bool) → Here r s p c b → IsKnown r (Active body p) (Is b)
    active_body p b h = known_by r (Active body p) (Is b) tt (asked (present_under r s rs p c b h) said)

    restarted_body : (p : ℕ) → p ≤ t → (b : Bool) × IsKnown r (Restarted body p) (Is b)
    restarted_body p l = let a = restarted_under r s rs p (again p l) in (a.0, known_by r (Restarted body p) (Is a.0) tt (asked a.1 said))

    input_of : (p : ℕ) → p ≤ t → Here r s p c true → (x : Name) (d : Decl) (own : Clock) → Reads (callee f g named) x d own → is_in x (names g.inputs) ≡ true → HasInput r body p x d
    input_of p l h x d own reads i =
        let a = argument_at r (Under s rs) p c args g.inputs (given p l h) x d (input_declared g x d i reads.declared) in
        record {
          value = a.value.value;
          gives = subst (λ (b : Bool). Comes r (if b then argument_rule (setting_of r) (slice_get args (place_in x (names g.inputs))) c (Under s rs) p else answer_to (Defined x body p)) (Value a.value.value)) (sym i)
              (subst (λ (o : Option Expr). Comes r (argument_rule (setting_of r) o c (Under s rs) p) (Value a.value.value)) (sym a.at) (asked a.value.known said));
          fits = a.value.fits;
        }

    surrounded_by : (p : ℕ) → p ≤ t → (b : Bool) → Here r s p c b → Surrounded r (callee f g named) body p
    surrounded_by p l true h = on (active_body p true h) (restarted_body p l).1 (input_of p l h)
    surrounded_by p l false h = off (active_body p false h) (restarted_body p l).1

    pub surrounded : (p : ℕ) → p ≤ t → Surrounded r (callee f g named) body p
    surrounded p l = surrounded_by p l (here p l).0 (here p l).1

    -- an output of the body
    body_value : Here r s t c true → Holds r (callee f g named) body t → (j : ℕ) (d : Decl) → slice_get g.outputs j ≡ Some d → HasValue r (Variable (slice_index_or (names g.outputs) j []) body t) d.ty
    body_value now h j d at =
        let o = (sound.nodes f g named).1.outputs d (contains_at g.outputs j d at) in
        let v : VariableFits r (callee f g named) body t d.name d = h.variables d.name d [] o.0 in
        subst (λ (x : Name). HasValue r (Variable x body t) d.ty) (sym (name_at g.outputs j d at))
        (has_value r (Variable d.name body t) body t [] d.ty ((callee f g named).grade d.name) o.1 (fits_at r (callee f g named) body t d.name d [] v o.0 true (active (active_body t true now) no_step)))

    record ComesTo (d : Rule) (y : Ty) : Type 0 where
      value : ℕ
      comes : Comes r d (Value value)
      fits : IsValueOf (types_in r) y value

    reply_value : Here r s t c true → Holds r (callee f g named) body t → (j : ℕ) (d : Decl) → slice_get g.outputs j ≡ Some d → (n : ℕ) (o : Option (List ℕ)) → r.replies (calls_around s ++ e.place.0 ∷ []) n ≡ o →
        ComesTo (reply_or (setting_of r) o j (answer_to (Variable (slice_index_or (names g.outputs) j []) body t))) d.ty
    reply_value now h j d at n None is = let v = body_value now h j d at in record { value = v.value; comes = asked v.known said; fits = v.fits }
    reply_value now h j d at n (Some outs) is =
        record { value = slice_index outs j; comes = said; fits = value_at (types_in r) g.outputs outs j d (replies (e.place.0 ∷ []) (types_of g.outputs) n outs (own_call stands call named) is) at }

    call_is : option_map {U = List Expr × Text} (λ (text : Text). (args, text)) (option_map Lowered (find (λ n. same f n.name) r.core.nodes)) ≡ Some (args, Lowered g)
    call_is = ap (λ (o : Option CoreNode). option_map {U = List Expr × Text} (λ (text : Text). (args, text)) (option_map Lowered o)) named

    known_output : Here r s t c true → (j : ℕ) (v : ℕ) → Comes r (output_rule (setting_of r) (Some (args, Lowered g)) e.place.0 j c (Under s rs) t) (Value v) → IsKnown r (Output e j c (Under s rs) t) (Value v)
    known_output now j v h = known_by r (Output e j c (Under s rs) t) (Value v) tt (asked (present_under r s rs t c true now) (by_call future call))
      where
        by_call : (b : Bool) → IsCall e f args b → Comes r (outputs_rule (setting_of r) (out-Form e.form) e j c (Under s rs) t) (Value v)
        by_call _ (sync eq) = subst (λ (x : Form-F Form Expr MergeBranch). Comes r (outputs_rule (setting_of r) x e j c (Under s rs) t) (Value v)) (sym eq)
            (subst (λ (o : Option (List Expr × Text)). Comes r (output_rule (setting_of r) o e.place.0 j c (Under s rs) t) (Value v)) (sym call_is) h)
        by_call _ (async {q = q} eq) = subst (λ (x : Form-F Form Expr MergeBranch). Comes r (outputs_rule (setting_of r) x e j c (Under s rs) t) (Value v)) (sym eq)
            (subst (λ (o : Option (List Expr × Text)). Comes r (output_rule (setting_of r) o e.place.0 j c (Under s rs) t) (Value v)) (sym call_is) h)

    pub call_gives : Here r s t c true → Holds r (callee f g named) body t → CallGives r (Under s rs) t e c (results future g)
    call_gives now h j y at =
        let o = result_at (types_in r) future g j y at in
        let n = counts r s c rs (λ m. reply_or (setting_of r) (r.replies (calls_around s ++ e.place.0 ∷ []) m) j (answer_to (Variable (slice_index_or (names g.outputs) j []) body t))) t (λ p l. here p (omega arith)) in
        let v = reply_value now h j o.0 o.1 n.number (r.replies (calls_around s ++ e.place.0 ∷ []) n.number) refl in
        record { value = v.value; known = known_output now j v.value (n.comes (Value v.value) v.comes); fits = subst (λ (m : ℕ). v.value < m) (sym o.2) v.fits }
