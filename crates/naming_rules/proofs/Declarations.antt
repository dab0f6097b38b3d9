-- Declarations, left sides and names with one more at the end.
use Rattle.std.proofs.Common.{◌≡◌, Bool, true, false, ◌||◌, if◌then◌else◌, List, [], ◌∷◌, ◌++◌, refl, sym, ap, subst, ◌∙◌, ◌⊎◌, inl, inr, ⊎_elim, append_assoc, Some}
use Rattle.std.specs.List.{flat_map}
use Rattle.std.proofs.lemmas.Bool.{or_parts}
use Rattle.std.proofs.lemmas.List.{map-append}
use Rattle.std.proofs.lemmas.List.Folds.{list_any-append}
use Rattle.hept_ast.specs.Texts.{Name, same, is_in, names}
use Rattle.hept_ast.specs.Parts.{declaration}
use Rattle.hept_ast.specs.Paths.{AllDiffer, IsAmong, at_head, in_tail}
use Rattle.hept_ast.specs.declared.tree.Core.{Core}
use Rattle.hept_ast.specs.declared.tree.CoreEquation.{CoreEquation}
use Rattle.hept_ast.specs.declared.tree.Decl.{Decl}
use Rattle.core_rules.proofs.Ends.{same_self}
use Rattle.core_rules.specs.Cores.{core_decls, lefts_of}
use Rattle.core_rules.specs.WellFormed.{IsWellFormed}
use Rattle.core_naming.specs.Names.{IsNaming, equation_names, new_decl, new_equation, with_right}
use Rattle.core_naming.specs.Ties.{clock_names}
use Rattle.naming_rules.proofs.Names.{flat_append, never, out_both, out_left, out_right, same_turned}
use Rattle.naming_rules.proofs.Mentions.{decl_name_new, node_name_new, the_node}

-- ---- declarations

pub declared_still : (ds : List Decl) (d : Decl) (y : Name) → same y d.name ≡ false → declaration (ds ++ d ∷ []) y ≡ declaration ds y
declared_still [] d y f = rw f refl
declared_still (e ∷ ds) d y f = go (same y e.name) (declared_still ds d y f)
  where
    go : (b : Bool) → declaration (ds ++ d ∷ []) y ≡ declaration ds y → (if b then Some e else declaration (ds ++ d ∷ []) y) ≡ (if b then Some e else declaration ds y)
    go true h = refl
    go false h = h

pub declared_last : (ds : List Decl) (d : Decl) → is_in d.name (names ds) ≡ false → declaration (ds ++ d ∷ []) d.name ≡ Some d
declared_last [] d f = rw (same_self d.name) refl
declared_last (e ∷ ds) d f =
    let q = or_parts (same d.name e.name) (is_in d.name (names ds)) f in
    rw q.0 (declared_last ds d q.1)

pub names_append : (ds es : List Decl) → names (ds ++ es) ≡ names ds ++ names es
names_append ds es = map-append (λ (d : Decl). d.name) ds es

-- ---- names that differ

among_end : (y x : Name) (ys : List Name) → IsAmong y (ys ++ x ∷ []) → (y ≡ x) ⊎ IsAmong y ys
among_end y x [] at_head = inl refl
among_end y x [] (in_tail i) = elim i [ ]
among_end y x (z ∷ ys) at_head = inr at_head
among_end y x (z ∷ ys) (in_tail i) = ⊎_elim (λ e. inl e) (λ k. inr (in_tail k)) (among_end y x ys i)

pub differ_end : (x : Name) (ys : List Name) → AllDiffer ys → is_in x ys ≡ false → AllDiffer (ys ++ x ∷ [])
differ_end x [] d f = ((λ i. elim i [ ]), tt)
differ_end x (y ∷ ys) d f =
    let q = or_parts (same x y) (is_in x ys) f in
    ((λ i. ⊎_elim (λ (e : y ≡ x). never q.0 (ap (λ (z : Name). same x z) e ∙ same_self x)) (λ k. d.0 k) (among_end y x ys i)), differ_end x ys d.1 q.1)

or_false : (b : Bool) → b || false ≡ b
or_false true = refl
or_false false = refl

-- ---- the node with the new variable

module _ (core other : Core) (well : IsWellFormed core) (n : IsNaming core other) where
  abbrev fresh_decl : Decl
  fresh_decl = new_decl n.x n.a n.t

  pub decls_moved : core_decls n.moved ≡ core_decls n.node ++ fresh_decl ∷ []
  decls_moved = rw n.step.inputs (rw n.step.outputs (rw n.step.locals (sym (append_assoc (n.node.inputs ++ n.node.outputs) n.node.locals (fresh_decl ∷ [])))))

  pub names_moved : names (core_decls n.moved) ≡ names (core_decls n.node) ++ n.x ∷ []
  names_moved = ap names decls_moved ∙ names_append (core_decls n.node) (fresh_decl ∷ [])

  pub undeclared : is_in n.x (names (core_decls n.node)) ≡ false
  undeclared = decl_name_new n.x n.node (node_name_new core n.x n.new.fresh n.node (the_node core other well n))

  pub seen_moved : (y : Name) → same n.x y ≡ false → declaration (core_decls n.moved) y ≡ declaration (core_decls n.node) y
  seen_moved y f = ap (λ (ds : List Decl). declaration ds y) decls_moved ∙ declared_still (core_decls n.node) fresh_decl y (same_turned n.x y f)

  pub seen_new : declaration (core_decls n.moved) n.x ≡ Some fresh_decl
  seen_new = ap (λ (ds : List Decl). declaration ds n.x) decls_moved ∙ declared_last (core_decls n.node) fresh_decl undeclared

  with_x : (y : Name) (ys : List Name) → same n.x y ≡ false → is_in y (ys ++ n.x ∷ []) ≡ is_in y ys
  with_x y ys f = list_any-append (same y) ys (n.x ∷ []) ∙ ap (λ b. is_in y ys || (b || false)) (same_turned n.x y f) ∙ or_false (is_in y ys)

  pub own_moved : (y : Name) → same n.x y ≡ false → is_in y (names (core_decls n.moved)) ≡ is_in y (names (core_decls n.node))
  own_moved y f = ap (is_in y) names_moved ∙ with_x y (names (core_decls n.node)) f

  pub own_new : is_in n.x (names (core_decls n.moved)) ≡ true
  own_new = ap (is_in n.x) names_moved ∙ list_any-append (same n.x) (names (core_decls n.node)) (n.x ∷ []) ∙ ap (λ b. b || (same n.x n.x || false)) undeclared ∙ ap (λ b. b || false) (same_self n.x)

  -- ---- left sides

  abbrev old : CoreEquation
  old = n.step.equation

  abbrev changed : CoreEquation
  changed = with_right old n.step.right

  abbrev new : CoreEquation
  new = new_equation n.x n.a n.d old.resets

  abbrev lefts : List CoreEquation → List Name
  lefts es = flat_map (λ e. e.left) es

  pub lefts_changed : lefts (n.step.front ++ changed ∷ n.step.back) ≡ lefts (n.step.front ++ old ∷ n.step.back)
  lefts_changed = flat_append (λ (e : CoreEquation). e.left) n.step.front (changed ∷ n.step.back) ∙ sym (flat_append (λ (e : CoreEquation). e.left) n.step.front (old ∷ n.step.back))

  pub lefts_moved : lefts_of n.moved ≡ lefts_of n.node ++ n.x ∷ []
  lefts_moved =
      ap lefts n.step.others
      ∙ flat_append (λ (e : CoreEquation). e.left) (n.step.front ++ changed ∷ n.step.back) (new ∷ [])
      ∙ ap (λ (l : List Name). l ++ n.x ∷ []) (lefts_changed ∙ sym (ap lefts n.step.equations))

  no_left : (es : List CoreEquation) → is_in n.x (flat_map equation_names es) ≡ false → is_in n.x (lefts es) ≡ false
  no_left [] f = refl
  no_left (e ∷ es) f =
      out_both n.x e.left (lefts es) (out_left n.x e.left (clock_names e.clock.steps) (out_left n.x (e.left ++ clock_names e.clock.steps) e.resets (out_left n.x (equation_names e) (flat_map equation_names es) f)))
      (no_left es (out_right n.x (equation_names e) (flat_map equation_names es) f))

  pub undefined : is_in n.x (lefts_of n.node) ≡ false
  undefined =
      no_left n.node.equations
      (out_right n.x (n.node.name ∷ names (core_decls n.node)) (flat_map equation_names n.node.equations) (node_name_new core n.x n.new.fresh n.node (the_node core other well n)))

  pub once_moved : AllDiffer (names (core_decls n.node)) → AllDiffer (names (core_decls n.moved))
  once_moved d = subst (λ (l : List Name). AllDiffer l) (sym names_moved) (differ_end n.x (names (core_decls n.node)) d undeclared)

  pub one_left_moved : AllDiffer (lefts_of n.node) → AllDiffer (lefts_of n.moved)
  one_left_moved d = subst (λ (l : List Name). AllDiffer l) (sym lefts_moved) (differ_end n.x (lefts_of n.node) d undefined)

  defined_names : names (n.moved.outputs ++ n.moved.locals) ≡ names (n.node.outputs ++ n.node.locals) ++ n.x ∷ []
  defined_names =
      rw n.step.outputs (rw n.step.locals (ap names (sym (append_assoc n.node.outputs n.node.locals (fresh_decl ∷ []))) ∙ names_append (n.node.outputs ++ n.node.locals) (fresh_decl ∷ [])))

  pub defined_moved : ((y : Name) → is_in y (lefts_of n.node) ≡ is_in y (names (n.node.outputs ++ n.node.locals))) → (y : Name) → is_in y (lefts_of n.moved) ≡ is_in y (names (n.moved.outputs ++ n.moved.locals))
  defined_moved h y =
      ap (is_in y) lefts_moved
      ∙ list_any-append (same y) (lefts_of n.node) (n.x ∷ [])
      ∙ ap (λ b. b || (same y n.x || false)) (h y)
      ∙ sym (list_any-append (same y) (names (n.node.outputs ++ n.node.locals)) (n.x ∷ []))
      ∙ ap (is_in y) (sym defined_names)
