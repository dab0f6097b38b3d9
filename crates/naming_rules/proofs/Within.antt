-- The names of a core are among those of the core in which a subexpression is named.
use Rattle.std.proofs.Common.{◌≡◌, Bool, true, false, ◌||◌, List, [], ◌∷◌, ◌++◌, refl, sym, subst, append_assoc}
use Rattle.std.specs.List.{flat_map}
use Rattle.std.proofs.lemmas.Bool.{false≢true}
use Rattle.std.proofs.lemmas.Grind.{flat_map-append}
use Rattle.hept_ast.specs.Texts.{Name, same, is_in, names}
use Rattle.hept_ast.specs.Scopes.{Clock}
use Rattle.hept_ast.specs.declared.tree.Core.{Core}
use Rattle.hept_ast.specs.declared.tree.CoreNode.{CoreNode}
use Rattle.hept_ast.specs.declared.tree.CoreEquation.{CoreEquation}
use Rattle.hept_ast.specs.declared.tree.Decl.{Decl}
use Rattle.hept_ast.specs.declared.tree.Expr.{Expr}
use Rattle.hept_ast.specs.declared.tree.Ty.{Ty}
use Rattle.hept_ast.specs.declared.tree.TypeDec.{TypeDec}
use Rattle.core_rules.specs.Cores.{core_decls}
use Rattle.core_naming.specs.Names.{IsNaming, NamesInNode, core_names, equation_names, new_decl, new_equation, node_names, with_right}

-- ---- names that are not in a list

or_left : (b c : Bool) → b || c ≡ false → b ≡ false
or_left true c e = e
or_left false c e = refl

or_right : (b c : Bool) → b || c ≡ false → c ≡ false
or_right true c e = absurd (false≢true (sym e))
or_right false c e = e

or_both : (b c : Bool) → b ≡ false → c ≡ false → b || c ≡ false
or_both true c h k = h
or_both false c h k = k

absent_left : (x : Name) (ys zs : List Name) → is_in x (ys ++ zs) ≡ false → is_in x ys ≡ false
absent_left x [] zs h = refl
absent_left x (y ∷ ys) zs h = or_both (same x y) (is_in x ys) (or_left (same x y) (is_in x (ys ++ zs)) h) (absent_left x ys zs (or_right (same x y) (is_in x (ys ++ zs)) h))

absent_right : (x : Name) (ys zs : List Name) → is_in x (ys ++ zs) ≡ false → is_in x zs ≡ false
absent_right x [] zs h = h
absent_right x (y ∷ ys) zs h = absent_right x ys zs (or_right (same x y) (is_in x (ys ++ zs)) h)

absent_both : (x : Name) (ys zs : List Name) → is_in x ys ≡ false → is_in x zs ≡ false → is_in x (ys ++ zs) ≡ false
absent_both x [] zs h k = k
absent_both x (y ∷ ys) zs h k = or_both (same x y) (is_in x (ys ++ zs)) (or_left (same x y) (is_in x ys) h) (absent_both x ys zs (or_right (same x y) (is_in x ys) h) k)

-- ---- a list's names are among those of another

pub record Within (xs ys : List Name) : Type 0 where
  pub absent : (x : Name) → is_in x ys ≡ false → is_in x xs ≡ false

pub within_itself : (xs : List Name) → Within xs xs
within_itself xs = record { absent = λ x h. h }

pub within_then : (xs ys zs : List Name) → Within xs ys → Within ys zs → Within xs zs
within_then xs ys zs h k = record { absent = λ x l. h.absent x (k.absent x l) }

within_both : (xs ys us vs : List Name) → Within xs us → Within ys vs → Within (xs ++ ys) (us ++ vs)
within_both xs ys us vs h k = record { absent = λ x l. absent_both x xs ys (h.absent x (absent_left x us vs l)) (k.absent x (absent_right x us vs l)) }

within_cons : (x : Name) (ys zs : List Name) → Within ys zs → Within (x ∷ ys) (x ∷ zs)
within_cons x ys zs h = within_both (x ∷ []) ys (x ∷ []) zs (within_itself (x ∷ [])) h

within_more : (xs ys : List Name) → Within xs (xs ++ ys)
within_more xs ys = record { absent = λ x l. absent_left x xs ys l }

flat_more : {A : Type 0} (f : A → List Name) (bs more : List A) → Within (flat_map f bs) (flat_map f (bs ++ more))
flat_more f bs more = subst (λ (ys : List Name). Within (flat_map f bs) ys) (sym (flat_map-append f bs more)) (within_more (flat_map f bs) (flat_map f more))

flat_middle : {A : Type 0} (f : A → List Name) (front : List A) (b c : A) (bs cs : List A) → Within (f b) (f c) → Within (flat_map f bs) (flat_map f cs) →
    Within (flat_map f (front ++ b ∷ bs)) (flat_map f (front ++ c ∷ cs))
flat_middle f [] b c bs cs h k = within_both (f b) (flat_map f bs) (f c) (flat_map f cs) h k
flat_middle f (a ∷ front) b c bs cs h k =
    within_both (f a) (flat_map f (front ++ b ∷ bs)) (f a) (flat_map f (front ++ c ∷ cs)) (within_itself (f a)) (flat_middle f front b c bs cs h k)

-- ---- nodes

decls_more : (ds es : List Decl) → Within (names ds) (names (ds ++ es))
decls_more [] es = record { absent = λ x l. refl }
decls_more (d ∷ ds) es = within_cons d.name (names ds) (names (ds ++ es)) (decls_more ds es)

decls_regrouped : (i o l j p m ds : List Decl) → j ≡ i → p ≡ o → m ≡ l ++ ds → j ++ p ++ m ≡ (i ++ o ++ l) ++ ds
decls_regrouped i o l j p m ds e f g = cc (append_assoc (i ++ o) l ds)

module _ (x : Name) (a : Expr) (d : Clock) (t : Ty) (node moved : CoreNode) (n : NamesInNode x a d t node moved) where
  decls_within : Within (names (core_decls node)) (names (core_decls moved))
  decls_within =
      subst (λ (ds : List Decl). Within (names (core_decls node)) (names ds))
      (sym (decls_regrouped node.inputs node.outputs node.locals moved.inputs moved.outputs moved.locals (new_decl x a t ∷ []) n.inputs n.outputs n.locals))
      (decls_more (core_decls node) (new_decl x a t ∷ []))

  abbrev named : List CoreEquation
  named = n.front ++ with_right n.equation n.right ∷ n.back

  abbrev added : List CoreEquation
  added = new_equation x a d n.equation.resets ∷ []

  -- the right side is not among the names of an equation
  equations_within : Within (flat_map equation_names node.equations) (flat_map equation_names moved.equations)
  equations_within =
      subst (λ (es : List CoreEquation). Within (flat_map equation_names es) (flat_map equation_names moved.equations)) (sym n.equations)
      (subst (λ (es : List CoreEquation). Within (flat_map equation_names (n.front ++ n.equation ∷ n.back)) (flat_map equation_names es)) (sym n.others)
      (within_then (flat_map equation_names (n.front ++ n.equation ∷ n.back)) (flat_map equation_names named) (flat_map equation_names (named ++ added))
      (flat_middle equation_names n.front n.equation (with_right n.equation n.right) n.back n.back (within_itself (equation_names n.equation)) (within_itself (flat_map equation_names n.back)))
      (flat_more equation_names named added)))

  node_within : Within (node_names node) (node_names moved)
  node_within =
      subst (λ (y : Name). Within (node_names node) (y ∷ names (core_decls moved) ++ flat_map equation_names moved.equations)) (sym n.name)
      (within_cons node.name (names (core_decls node) ++ flat_map equation_names node.equations) (names (core_decls moved) ++ flat_map equation_names moved.equations)
      (within_both (names (core_decls node)) (flat_map equation_names node.equations) (names (core_decls moved)) (flat_map equation_names moved.equations) decls_within equations_within))

-- ---- cores

type_names : List TypeDec → List Name
type_names types = flat_map (λ d. d.name ∷ d.constructors) types

pub names_within : (core other : Core) → IsNaming core other → Within (core_names core) (core_names other)
unfolding type_names
names_within core other n =
    within_both (type_names core.types) (flat_map node_names core.nodes) (type_names other.types) (flat_map node_names other.nodes)
    (subst (λ (types : List TypeDec). Within (type_names core.types) (type_names types)) (sym n.types) (within_itself (type_names core.types)))
    (subst (λ (ms : List CoreNode). Within (flat_map node_names ms) (flat_map node_names other.nodes)) (sym n.nodes)
    (subst (λ (ms : List CoreNode). Within (flat_map node_names (n.front ++ n.node ∷ n.back)) (flat_map node_names ms)) (sym n.others)
    (flat_middle node_names n.front n.node n.moved n.back n.back (node_within n.x n.a n.d n.t n.node n.moved n.step) (within_itself (flat_map node_names n.back)))))
