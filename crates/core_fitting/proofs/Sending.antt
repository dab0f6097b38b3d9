-- Each site of the expanded text stands in a body, and is sent calls that fit.
use Rattle.std.proofs.Common.{◌≡◌, ◌⊎◌, inl, inr, ℕ, zero, suc, ◌+◌, Bool, true, false, ◌||◌, if◌then◌else◌, List, [], ◌∷◌, ◌++◌, map, length, Option, Some, refl, sym, ap, subst, arith, ◌∙◌}
use Rattle.std.specs.Prelude.{Contains}
use Rattle.std.specs.List.{find}
use Rattle.std.specs.Option.{option_map}
use Rattle.hept_ast.specs.Texts.{Name, same}
use Rattle.hept_ast.specs.Scopes.{Clock, Scope, Text, Top, Under, Lowered, input_decls}
use Rattle.hept_ast.specs.Meaning.{Gives, Present, Restarted, Is}
use Rattle.hept_ast.specs.Outputs.{HaveValues}
use Rattle.hept_ast.specs.Sites.{Body, Core_statement, Expression, Piece, SentFrom, Site, Sites, SitesOf, SitesOfAll, async_site, by_number, call, callee_pieces, end, expressions, first as first_sites, form_pieces, form_site, insert, is_before, no_call, none, own_site, path_of, pieces, whole}
use Rattle.hept_ast.specs.declared.tree.CoreEquation.{CoreEquation}
use Rattle.hept_ast.specs.declared.tree.CoreNode.{CoreNode}
use Rattle.hept_ast.specs.declared.tree.ClockStep.{ClockStep}
use Rattle.hept_ast.specs.declared.tree.Decl.{Decl}
use Rattle.hept_ast.specs.declared.tree.Expr.{Expr}
use Rattle.hept_ast.specs.declared.tree.MergeBranch.{MergeBranch}
use Rattle.hept_ast.specs.declared.tree.Ty.{Ty}
use Rattle.hept_ast.specs.declared.tree.Form.{Form, out-Form}
use Rattle.hept_ast.specs.declared.tree.Form.TheOpen.{Form-F}
use Rattle.hept_ast.specs.TypedValues.{RowFits, RowsFit}
use Rattle.core_facts.specs.Undefined.{Among, first, next}
use Rattle.core_fitting.specs.Sound.{IsNamed, IsProper, Reads, Sound, SoundArguments, SoundBranches, SoundCall, SoundNode, SoundResets, SoundRight, Within, a_branch, an_argument, async, is_arrow, is_async_constant, is_binary, is_call, is_constant, is_fby, is_get, is_if, is_merge, is_pre, is_result, is_unary, is_variable, is_when, no_arguments, no_branches, one_more, one_name, results_of, sync}
use Rattle.core_fitting.specs.Holding.{Here, Holds, IsBody, IsKnown, Run, called_body, chosen_body, setting_of, types_in}
use Rattle.core_fitting.specs.Laws.{IsFitRun, SitesAreSent}
use Rattle.core_fitting.proofs.Presence.{present_under, restarted_under}
use Rattle.core_fitting.proofs.Fitting.{proper_of}
use Rattle.core_fitting.proofs.Calls.{Inputs}
use Rattle.core_fitting.proofs.Law.{arguments_at, body_of, here_in, holds_everywhere, restarts_at}
use Rattle.core_fitting.proofs.NamesRead.{take_last}
use Rattle.core_fitting.proofs.Bodies.{IsFrame, a_call, a_top}
use Rattle.core_fitting.proofs.Lists.{EachOf}
use Rattle.core_fitting.proofs.StaticSound.{as_among, as_contains}

-- what is known of a piece of the expanded text
data Good (r : Run) (chosen : Within) : Piece → Type 0 where
  good_body : {k : Within} {s : Scope} → IsBody r chosen k s → Good r chosen (Body s)
  good_statement : {k : Within} {s : Scope} {e : CoreEquation} → IsBody r chosen k s → Contains k.node.equations e → Good r chosen (Core_statement e s)
  good_expression : {k : Within} {s : Scope} {e : CoreEquation} {x : Expr} {c : Clock} {y : Ty} {n : List (List Name)} →
      IsBody r chosen k s → Contains k.node.equations e → IsProper k c → Sound r.core k e.resets x c y n → (u : Scope) → u ≡ Under s e.resets → Good r chosen (Expression x c u)
  good_call : {k : Within} {s : Scope} {e : CoreEquation} {x : Expr} {c : Clock} {ts : List Ty} →
      IsBody r chosen k s → Contains k.node.equations e → IsProper k c → SoundCall r.core k e.resets x c ts → (u : Scope) → u ≡ Under s e.resets → Good r chosen (Expression x c u)

-- what is known of a site
record SiteOf (r : Run) (chosen : Within) (site : Site) : Type 0 where
  node : Within
  scope : Scope
  resets : List Name
  under : site.scope ≡ Under scope resets
  body : IsBody r chosen node scope
  resets_sound : SoundResets node resets
  proper : IsProper node site.clock
  arguments : SoundArguments r.core node resets site.args site.clock (input_decls site.text)

each_map : {A B : Type 0} (P : B → Type 0) (f : A → B) (xs : List A) → ((x : A) → Among x xs → P (f x)) → EachOf P (map f xs)
each_map P f [] h = tt
each_map P f (x ∷ xs) h = (h x first, each_map P f xs (λ y i. h y (next i)))

either_among : {A : Type 0} (x : A) (xs ys : List A) → Among x (xs ++ ys) → Among x xs ⊎ Among x ys
either_among x [] ys i = inr i
either_among x (_ ∷ xs) ys first = inl first
either_among x (_ ∷ xs) ys (next i) = more (either_among x xs ys i)
  where
    more : {A : Type 0} {x y : A} {xs ys : List A} → Among x xs ⊎ Among x ys → Among x (y ∷ xs) ⊎ Among x ys
    more (inl j) = inl (next j)
    more (inr j) = inr j

head_or : {A : Type 0} (x y : A) (xs : List A) → Among x (y ∷ xs) → (y ≡ x) ⊎ Among x xs
head_or x _ xs first = inl refl
head_or x y xs (next i) = inr i

none_among : {A P : Type 0} (x : A) (xs : List A) → xs ≡ [] → Among x xs → P
none_among {A = A} x xs e i = gone (subst (λ (l : List A). Among x l) e i)
  where
    gone : {A P : Type 0} {x : A} → Among x [] → P
    gone j = elim j [ ]

module _ (r : Run) (chosen : Within) (run : IsFitRun r chosen) where
  node_of : (k : Within) (s : Scope) → IsBody r chosen k s → SoundNode r.core k
  node_of k s body = (body_of r chosen run k s body).node

  by_view : (x : Expr) (v : Form-F Form Expr MergeBranch) (c : Clock) (u : Scope) → out-Form x.form ≡ v → EachOf (Good r chosen) (form_pieces (setting_of r) v x c u) → EachOf (Good r chosen) (pieces (setting_of r) (Expression x c u))
  by_view x v c u eq h = subst (λ (w : Form-F Form Expr MergeBranch). EachOf (Good r chosen) (form_pieces (setting_of r) w x c u)) (sym eq) h

  module _ (k : Within) (s : Scope) (e : CoreEquation) (body : IsBody r chosen k s) (in_node : Contains k.node.equations e) where
    abbrev u : Scope
    u = Under s e.resets

    an_expression : (x : Expr) (c : Clock) (y : Ty) (n : List (List Name)) → IsProper k c → Sound r.core k e.resets x c y n → Good r chosen (Expression x c u)
    an_expression x c y n proper sound = good_expression body in_node proper sound (Under s e.resets) refl

    argument_pieces : (es : List Expr) (c : Clock) (ds : List Decl) → IsProper k c → SoundArguments r.core k e.resets es c ds → EachOf (Good r chosen) (expressions es c u)
    argument_pieces _ c _ proper no_arguments = tt
    argument_pieces _ c _ proper (an_argument {e = a} {es = es} {d = d} {ds = ds} sound rest) = (an_expression a c d.ty [] proper sound, argument_pieces es c ds proper rest)

    branch_pieces : (x : Name) (c : Clock) (bs : List MergeBranch) (y : Ty) → ((p : ClockStep) → p.name ≡ x → IsProper k (c ++ p ∷ [])) → SoundBranches r.core k e.resets x c bs y →
        EachOf (Good r chosen) (map (λ b. Expression b.value (c ++ record { tag = b.tag; name = x } ∷ []) u) bs)
    branch_pieces x c _ y proper no_branches = tt
    branch_pieces x c _ y proper (a_branch {b = b} {bs = bs} sound rest) =
        (an_expression b.value (c ++ record { tag = b.tag; name = x } ∷ []) y [] (proper (record { tag = b.tag; name = x }) refl) sound, branch_pieces x c bs y proper rest)

    named_text : (f : Name) (args : List Expr) (g : CoreNode) → IsNamed r.core f g → option_map {U = List Expr × Text} (λ (text : Text). (args, text)) (option_map Lowered (find (λ n. same f n.name) r.core.nodes)) ≡ Some (args, Lowered g)
    named_text f args g named = ap (λ (o : Option CoreNode). option_map {U = List Expr × Text} (λ (text : Text). (args, text)) (option_map Lowered o)) named

    call_pieces : (x : Expr) (c : Clock) (ts : List Ty) → IsProper k c → SoundCall r.core k e.resets x c ts → EachOf (Good r chosen) (pieces (setting_of r) (Expression x c u))
    call_pieces x c _ proper (is_call {f = f} {args = args} {g = g} (sync eq) named leads stands sound same_types) =
        by_view x (Form-F.Call f args) c u eq
        (subst (λ (o : Option (List Expr × Text)). EachOf (Good r chosen) (callee_pieces (setting_of r) o x.place.0 c u ++ expressions args c u)) (sym (named_text f args g named))
        (good_body (called_body body in_node proper (sync eq) named leads stands sound (run.sound.nodes f g named).1), argument_pieces args c g.inputs proper sound))
    call_pieces x c _ proper (is_call {f = f} {args = args} {g = g} (async {q = q} eq) named leads stands sound same_types) =
        by_view x (Form-F.AsyncCall q f args) c u eq (argument_pieces args c g.inputs proper sound)

    expression_pieces : (x : Expr) (c : Clock) (y : Ty) (n : List (List Name)) → IsProper k c → Sound r.core k e.resets x c y n → EachOf (Good r chosen) (pieces (setting_of r) (Expression x c u))
    expression_pieces x c _ _ proper (is_constant eq known fits) = by_view x _ c u eq tt
    expression_pieces x c _ _ proper (is_async_constant eq known fits) = by_view x _ c u eq tt
    expression_pieces x c _ _ proper (is_variable eq sees) = by_view x _ c u eq tt
    expression_pieces x c y n proper (is_unary {a = a} eq sound fit) = by_view x _ c u eq (an_expression a c _ _ proper sound, tt)
    expression_pieces x c y _ proper (is_binary {a = a} {b = b} eq left right fit) = by_view x _ c u eq (an_expression a c _ _ proper left, (an_expression b c _ _ proper right, tt))
    expression_pieces x c y _ proper (is_if {i = i} {a = a} {b = b} eq test left right) = by_view x _ c u eq (an_expression i c _ _ proper test, (an_expression a c _ _ proper left, (an_expression b c _ _ proper right, tt)))
    expression_pieces x c y n proper (is_fby {a = a} {b = b} eq left right) = by_view x _ c u eq (an_expression a c _ _ proper left, (an_expression b c _ _ proper right, tt))
    expression_pieces x c y _ proper (is_pre {a = a} eq sound) = by_view x _ c u eq (an_expression a c _ _ proper sound, tt)
    expression_pieces x c y n proper (is_arrow {a = a} {b = b} eq left right inside) = by_view x _ c u eq (an_expression a c _ _ proper left, (an_expression b c _ _ proper right, tt))
    expression_pieces x _ y n proper (is_when {a = a} {c = c} {tag = tag} {x = z} {d = d} eq sees defined sound) =
        by_view x (Form-F.When a tag z) (c ++ record { tag = tag; name = z } ∷ []) u eq
        (subst (λ (b : Clock). Good r chosen (Expression a b u)) (sym (take_last c (record { tag = tag; name = z }))) (an_expression a c y n (proper_of r.core k (node_of k s body) z d c sees) sound), tt)
    expression_pieces x c y _ proper (is_merge {x = z} {d = d} {bs = bs} eq sees defined tagged every sound) =
        by_view x (Form-F.Merge z bs) c u eq
        (branch_pieces z c bs y (λ p same_name. one_more p proper (subst (λ (m : Name). Reads k m d c) (sym same_name) sees) (subst (λ (m : Name). k.grade m ≡ []) (sym same_name) defined)) sound)
    expression_pieces x c y _ proper (is_result sound) = call_pieces x c (y ∷ []) proper sound
    expression_pieces x c _ n proper (is_get {a = a} eq sound) = by_view x _ c u eq (an_expression a c _ _ proper sound, tt)

    statement_pieces : SoundRight r.core k e → IsProper k e.clock.steps → EachOf (Good r chosen) (pieces (setting_of r) (Core_statement e s))
    statement_pieces (one_name left sees sound allows) proper = (an_expression e.right e.clock.steps _ _ proper sound, tt)
    statement_pieces (results_of many sound left) proper = (good_call body in_node proper sound (Under s e.resets) refl, tt)

    -- ---- the site of an expression

    no_site : {P : Type 0} (x : Expr) (v : Form-F Form Expr MergeBranch) (c : Clock) (site : Site) → out-Form x.form ≡ v → form_site (setting_of r) v x c u ≡ [] → Among site (form_site (setting_of r) (out-Form x.form) x c u) → P
    no_site x v c site eq nil i = none_among site (form_site (setting_of r) (out-Form x.form) x c u) (ap (λ (w : Form-F Form Expr MergeBranch). form_site (setting_of r) w x c u) eq ∙ nil) i

    only_site : (a b : Site) → Among a (b ∷ []) → b ≡ a
    only_site a _ first = refl
    only_site a b (next i) = elim i [ ]

    call_site : (x : Expr) (c : Clock) (ts : List Ty) (site : Site) → IsProper k c → SoundCall r.core k e.resets x c ts → Among site (form_site (setting_of r) (out-Form x.form) x c u) → SiteOf r chosen site
    call_site x c _ site proper (is_call {f = f} {args = args} (sync eq) named leads stands sound same_types) i = no_site x (Form-F.Call f args) c site eq refl i
    call_site x c _ site proper (is_call {f = f} {args = args} {g = g} (async {q = q} eq) named leads stands sound same_types) i =
        subst (SiteOf r chosen) (only_site site made (subst (λ (l : List Site). Among site l) made_is i))
        (record { node = k; scope = s; resets = e.resets; under = refl; body = body; resets_sound = ((node_of k s body).equations e in_node).resets; proper = proper; arguments = sound })
      where
        made : Site
        made = record { scope = Under s e.resets; clock = c; place = x.place.0; queue = q; args = args; text = Lowered g }

        made_is : form_site (setting_of r) (out-Form x.form) x c (Under s e.resets) ≡ made ∷ []
        made_is = ap (λ (w : Form-F Form Expr MergeBranch). form_site (setting_of r) w x c (Under s e.resets)) eq ∙ ap (λ (o : Option CoreNode). async_site (setting_of r) (option_map Lowered o) q args x.place.0 c (Under s e.resets)) named

    expression_site : (x : Expr) (c : Clock) (y : Ty) (n : List (List Name)) (site : Site) → IsProper k c → Sound r.core k e.resets x c y n → Among site (form_site (setting_of r) (out-Form x.form) x c u) → SiteOf r chosen site
    expression_site x c _ _ site proper (is_constant eq known fits) i = no_site x _ c site eq refl i
    expression_site x c _ _ site proper (is_async_constant eq known fits) i = no_site x _ c site eq refl i
    expression_site x c _ _ site proper (is_variable eq sees) i = no_site x _ c site eq refl i
    expression_site x c y n site proper (is_unary eq sound fit) i = no_site x _ c site eq refl i
    expression_site x c y _ site proper (is_binary eq left right fit) i = no_site x _ c site eq refl i
    expression_site x c y _ site proper (is_if eq test left right) i = no_site x _ c site eq refl i
    expression_site x c y n site proper (is_fby eq left right) i = no_site x _ c site eq refl i
    expression_site x c y _ site proper (is_pre eq sound) i = no_site x _ c site eq refl i
    expression_site x c y n site proper (is_arrow eq left right inside) i = no_site x _ c site eq refl i
    expression_site x _ y n site proper (is_when eq sees defined sound) i = no_site x _ _ site eq refl i
    expression_site x c y _ site proper (is_merge eq sees defined tagged every sound) i = no_site x _ c site eq refl i
    expression_site x c y _ site proper (is_result sound) i = call_site x c (y ∷ []) site proper sound i
    expression_site x c _ n site proper (is_get eq sound) i = no_site x _ c site eq refl i

  -- ---- all pieces and sites

  body_pieces_of : (k : Within) (s : Scope) → IsFrame k.node s → IsBody r chosen k s → EachOf (Good r chosen) (pieces (setting_of r) (Body s))
  body_pieces_of k s a_top body = each_map (Good r chosen) (λ e. Core_statement e s) k.node.equations (λ e i. good_statement body (as_contains e k.node.equations i))
  body_pieces_of k s a_call body = each_map (Good r chosen) (λ e. Core_statement e s) k.node.equations (λ e i. good_statement body (as_contains e k.node.equations i))

  good_pieces : (p : Piece) → Good r chosen p → EachOf (Good r chosen) (pieces (setting_of r) p)
  good_pieces _ (good_body {k = k} {s = s} body) = body_pieces_of k s (body_of r chosen run k s body).frame body
  good_pieces _ (good_statement {k = k} {s = s} {e = e} body in_node) = let q = (node_of k s body).equations e in_node in statement_pieces k s e body in_node q.right q.clock
  good_pieces _ (good_expression {k = k} {s = s} {e = e} {x = x} {c = c} {y = y} {n = n} body in_node proper sound u same) =
      subst (λ (v : Scope). EachOf (Good r chosen) (pieces (setting_of r) (Expression x c v))) (sym same) (expression_pieces k s e body in_node x c y n proper sound)
  good_pieces _ (good_call {k = k} {s = s} {e = e} {x = x} {c = c} {ts = ts} body in_node proper sound u same) =
      subst (λ (v : Scope). EachOf (Good r chosen) (pieces (setting_of r) (Expression x c v))) (sym same) (call_pieces k s e body in_node x c ts proper sound)

  good_site : (p : Piece) → Good r chosen p → (site : Site) → Among site (own_site (setting_of r) p) → SiteOf r chosen site
  good_site _ (good_body body) site i = elim i [ ]
  good_site _ (good_statement body in_node) site i = elim i [ ]
  good_site _ (good_expression {k = k} {s = s} {e = e} {x = x} {c = c} {y = y} {n = n} body in_node proper sound u same) site i =
      expression_site k s e body in_node x c y n site proper sound (subst (λ (v : Scope). Among site (form_site (setting_of r) (out-Form x.form) x c v)) same i)
  good_site _ (good_call {k = k} {s = s} {e = e} {x = x} {c = c} {ts = ts} body in_node proper sound u same) site i =
      call_site k s e body in_node x c ts site proper sound (subst (λ (v : Scope). Among site (form_site (setting_of r) (out-Form x.form) x c v)) same i)

  split_site : (p : Piece) → Good r chosen p → (site : Site) {inner : List Site} → Among site (own_site (setting_of r) p) ⊎ Among site inner → (Among site inner → SiteOf r chosen site) → SiteOf r chosen site
  split_site p good site (inl i) later = good_site p good site i
  split_site p good site (inr i) later = later i

  split_sites : (site : Site) (own others : List Site) → Among site own ⊎ Among site others → (Among site own → SiteOf r chosen site) → (Among site others → SiteOf r chosen site) → SiteOf r chosen site
  split_sites site own others (inl i) now later = now i
  split_sites site own others (inr i) now later = later i

  mutual
    sites_of : (p : Piece) (sites : List Site) → SitesOf (setting_of r) p sites → Good r chosen p → (site : Site) → Among site sites → SiteOf r chosen site
    sites_of p _ (whole {sites = inner} h) good site i =
        split_site p good site (either_among site (own_site (setting_of r) p) inner i) (sites_of_all (pieces (setting_of r) p) inner h (good_pieces p good) site)

    sites_of_all : (ps : List Piece) (sites : List Site) → SitesOfAll (setting_of r) ps sites → EachOf (Good r chosen) ps → (site : Site) → Among site sites → SiteOf r chosen site
    sites_of_all _ _ none good site i = elim i [ ]
    sites_of_all _ _ (first_sites {piece = p} {rest = ps} {sites = own} {others = others} h hs) good site i =
        split_sites site own others (either_among site own others i) (sites_of p own h good.0 site) (sites_of_all ps others hs good.1 site)

  among_head : (a b : Site) (xs : List Site) → (b ≡ a) → Among a (b ∷ xs)
  among_head a b xs e = subst (λ (z : Site). Among z (b ∷ xs)) e first

  turned : (a b x : Site) (xs : List Site) → (b ≡ a) ⊎ Among a xs → Among a (b ∷ x ∷ xs)
  turned a b x xs (inl e) = among_head a b (x ∷ xs) e
  turned a b x xs (inr j) = next (next j)

  moved : (a b x : Site) (xs : List Site) → (x ≡ a) ⊎ Among a (insert b xs) → (Among a (insert b xs) → Among a (b ∷ xs)) → Among a (b ∷ x ∷ xs)
  moved a b x xs (inl e) later = next (among_head a x xs e)
  moved a b x xs (inr j) later = turned a b x xs (head_or a b xs (later j))

  among_insert : (a b : Site) (xs : List Site) → Among a (insert b xs) → Among a (b ∷ xs)
  among_insert a b [] i = i
  among_insert a b (x ∷ xs) i = go (is_before (path_of b) (path_of x)) i (among_insert a b xs)
    where
      go : (c : Bool) → Among a (if c then b ∷ x ∷ xs else x ∷ insert b xs) → (Among a (insert b xs) → Among a (b ∷ xs)) → Among a (b ∷ x ∷ xs)
      go true j later = j
      go false j later = moved a b x xs (head_or a x (insert b xs) j) later

  kept_head : (a x : Site) (xs : List Site) → (x ≡ a) ⊎ Among a (by_number xs) → (Among a (by_number xs) → Among a xs) → Among a (x ∷ xs)
  kept_head a x xs (inl e) later = among_head a x xs e
  kept_head a x xs (inr j) later = next (later j)

  among_number : (a : Site) (xs : List Site) → Among a (by_number xs) → Among a xs
  among_number a [] i = i
  among_number a (x ∷ xs) i = kept_head a x xs (head_or a x (by_number xs) (among_insert a x (by_number xs) i)) (among_number a xs)

  site_of : (sites : List Site) (site : Site) → Sites (setting_of r) (Lowered chosen.node) sites → Contains sites site → SiteOf r chosen site
  site_of sites site h i =
      sites_of (Body (Top (Lowered chosen.node))) h.found h.all (good_body chosen_body) site
      (among_number site h.found (subst (λ (l : List Site). Among site l) (sym h.order) (as_among sites site i)))

  -- ---- what is sent

  values_of : (u : Scope) (t : ℕ) (c : Clock) (es : List Expr) (ds : List Decl) → Inputs r u t es c ds → (vs : List ℕ) × HaveValues (setting_of r) r.rows (map (λ e. Gives e c u t) es) vs × RowFits (types_in r) ds vs
  values_of u t c [] [] h = ([], tt, tt)
  values_of u t c [] (d ∷ ds) h = elim h [ ]
  values_of u t c (e ∷ es) [] h = elim h [ ]
  values_of u t c (e ∷ es) (d ∷ ds) h = let rest = values_of u t c es ds h.1 in (h.0.value ∷ rest.0, (h.0.known, rest.1), (h.0.fits, rest.2))

  module _ (site : Site) (at : SiteOf r chosen site) where
    abbrev SentFits : Bool → ℕ → ℕ → Type 0
    SentFits again t left = (calls : List (Bool × List ℕ)) × SentFrom (setting_of r) r.rows site again t left calls × RowsFit (types_in r) (input_decls site.text) (map (λ x. x.1) calls)

    sent_next : (again restarted : Bool) (t left : ℕ) → Holds r at.node at.scope t → IsKnown r (Restarted site.scope t) (Is restarted) → (b : Bool) → Here r at.scope t site.clock b → ((next : Bool) → SentFits next (suc t) left) → SentFits again t (suc left)
    sent_next again restarted t left holds k false here later =
        let rest = later (again || restarted) in
        (rest.0, no_call k (subst (λ (u : Scope). IsKnown r (Present site.clock u t) (Is false)) (sym at.under) (present_under r at.scope at.resets t site.clock false here)) rest.1, rest.2)
    sent_next again restarted t left holds k true here later =
        let rest = later false in
        let given : Inputs r site.scope t site.args site.clock (input_decls site.text) =
        subst (λ (u : Scope). Inputs r u t site.args site.clock (input_decls site.text)) (sym at.under)
        (arguments_at r chosen run at.node at.scope at.resets site.clock t holds at.resets_sound at.proper here site.args (input_decls site.text) at.arguments) in
        let vs = values_of site.scope t site.clock site.args (input_decls site.text) given in (
          (again || restarted, vs.0) ∷ rest.0,
          call k (subst (λ (u : Scope). IsKnown r (Present site.clock u t) (Is true)) (sym at.under) (present_under r at.scope at.resets t site.clock true here)) vs.1 rest.1,
          (vs.2, rest.2),
        )

    sent_from : (left : ℕ) (again : Bool) (t : ℕ) → t + left ≡ length r.rows → SentFits again t left
    sent_from zero again t e = ([], end, tt)
    sent_from (suc left) again t e =
        let holds = holds_everywhere r chosen run at.node at.scope at.body t (omega arith) in
        let k = restarted_under r at.scope at.resets t (restarts_at r chosen run at.node at.scope at.resets t holds at.resets_sound) in
        let here = here_in r chosen run at.node at.scope site.clock t holds at.proper in
        sent_next again k.0 t left holds (subst (λ (u : Scope). IsKnown r (Restarted u t) (Is k.0)) (sym at.under) k.1) here.0 here.1 (λ b. sent_from left b (suc t) (omega arith))

pub sites_are_sent : SitesAreSent
sites_are_sent r chosen run sites site h i = sent_from r chosen run site (site_of r chosen run sites site h i) (length r.rows) false 0 (omega arith)
