-- What the blocks around a part declare stands among the parts too, so its types are known, and types with tags have some.
use Rattle.std.proofs.Common.{◌≡◌, Bool, true, false, ◌||◌, if◌then◌else◌, List, [], ◌∷◌, ◌++◌, map, refl, subst, All, Option, Some}
use Rattle.std.specs.List.{AllByRecursion as Each, list_any, flat_map}
use Rattle.std.proofs.lemmas.Bool.{false≢true}
use Rattle.std.proofs.lemmas.List.Elements.{All-head, All-tail, All-nil, All-cons, All-from_recursion, recursion_from_All}
use Rattle.hept_ast.specs.Texts.{Name, same}
use Rattle.hept_ast.specs.Parts.{Branch_of, Body_of, State_of, Surroundings, Placed, declaration, declared_in, locals_around, parts, parts_of, parts_of_all, parts_of_branches, parts_of_body, parts_of_states, states_in, strong_in, transitions}
use Rattle.hept_ast.specs.Types.{constructors_of, has_tags, tags_of, type_is_known}
use Rattle.hept_ast.specs.declared.tree.TypeDec.{TypeDec}
use Rattle.hept_ast.specs.declared.tree.Decl.{Decl}
use Rattle.hept_ast.specs.declared.tree.Expr.{Expr}
use Rattle.hept_ast.specs.declared.tree.Node.{Node}
use Rattle.hept_ast.specs.declared.tree.Escape.{Escape}
use Rattle.hept_ast.specs.declared.tree.Tag.TheVariants as tag
use Rattle.hept_ast.specs.declared.tree.Ty.{Ty}
use Rattle.hept_ast.specs.declared.tree.Ty.TheVariants as ty
use Rattle.hept_ast.specs.declared.tree.Plain.TheVariants.{Int, Bool as Truth_value, Named}
use Rattle.hept_ast.specs.declared.tree.Equation.{Equation, Define, Switch', Reset', Automaton', Row_of-Equation, end_of-Equation, more_of-Equation, Row_of-Branch, end_of-Branch, more_of-Branch, Row_of-Block, end_of-Block, more_of-Block, Row_of-State, end_of-State, more_of-State}
use Rattle.hept_ast.proofs.Unfolded.{static}
use Rattle.hept_ast.specs.TypedValues.{HaveConstructors}
use Rattle.sound_expressions.proofs.Lists.{not_nil}

-- ---- what holds of all declarations of all parts holds of those around each part

pub each_left : {X : Type 0} (P : X → Type 0) (xs ys : List X) → Each P (xs ++ ys) → Each P xs
each_left P [] ys h = tt
each_left P (x ∷ xs) ys h = (h.0, each_left P xs ys h.1)

pub each_right : {X : Type 0} (P : X → Type 0) (xs ys : List X) → Each P (xs ++ ys) → Each P ys
each_right P [] ys h = h
each_right P (x ∷ xs) ys h = each_right P xs ys h.1

pub each_append : {X : Type 0} (P : X → Type 0) (xs ys : List X) → Each P xs → Each P ys → Each P (xs ++ ys)
each_append P [] ys h k = k
each_append P (x ∷ xs) ys h k = (h.0, each_append P xs ys h.1 k)

module _ (P : Decl → Type 0) where
  abbrev pub HoldsInside : Placed → Type 0
  HoldsInside q = Each P (declared_in q.part)

  abbrev pub HoldsAround : Placed → Type 0
  HoldsAround q = Each P (locals_around q.site)

  escapes_around : (site : Surroundings) (strong : Bool) (states : List Name) (es : List Escape) → Each P (locals_around site) → Each HoldsAround (transitions site strong states es)
  escapes_around site strong states [] h = tt
  escapes_around site strong states (e ∷ es) h = (h, escapes_around site strong states es h)

  mutual
    unfolding static

    pub around : (site : Surroundings) (e : Equation) → Each P (locals_around site) → Each HoldsInside (parts_of site e) → Each HoldsAround (parts_of site e)
    around site (Define p left right) h d = (h, tt)
    around site (Switch' p on n branches) h d = (h, around_branches site on branches h d.1)
    around site (Reset' p n body every) h d = (h, around_body site every body h d.1)
    around site (Automaton' p n states) h d = (h, around_states site (strong_in states) (map (λ c. c.label) (states_in states)) states h d.1)

    around_all : {n : _} (site : Surroundings) (row : Row_of-Equation n) → Each P (locals_around site) → Each HoldsInside (parts_of_all site row) → Each HoldsAround (parts_of_all site row)
    around_all site end_of-Equation h d = tt
    around_all site (more_of-Equation e rest) h d =
        each_append HoldsAround (parts_of site e) (parts_of_all site rest) (around site e h (each_left HoldsInside (parts_of site e) (parts_of_all site rest) d))
        (around_all site rest h (each_right HoldsInside (parts_of site e) (parts_of_all site rest) d))

    around_branches : {n : _} (site : Surroundings) (on : Expr) (row : Row_of-Branch n) → Each P (locals_around site) → Each HoldsInside (parts_of_branches site on row) → Each HoldsAround (parts_of_branches site on row)
    around_branches site on end_of-Branch h d = tt
    around_branches site on (more_of-Branch p tag locals n body rest) h d =
        let inner = Branch_of on locals ∷ site in
        let hi : Each P (locals_around inner) = each_append P locals (locals_around site) d.0 h in
        let first = parts_of_all inner body in
        let others = parts_of_branches site on rest in
        (hi, each_append HoldsAround first others (around_all inner body hi (each_left HoldsInside first others d.1)) (around_branches site on rest h (each_right HoldsInside first others d.1)))

    around_body : {n : _} (site : Surroundings) (every : Expr) (row : Row_of-Block n) → Each P (locals_around site) → Each HoldsInside (parts_of_body site every row) → Each HoldsAround (parts_of_body site every row)
    around_body site every end_of-Block h d = tt
    around_body site every (more_of-Block locals n body rest) h d =
        let inner = Body_of every locals ∷ site in
        let hi : Each P (locals_around inner) = each_append P locals (locals_around site) d.0 h in
        let first = parts_of_all inner body in
        let others = parts_of_body site every rest in
        (hi, each_append HoldsAround first others (around_all inner body hi (each_left HoldsInside first others d.1)) (around_body site every rest h (each_right HoldsInside first others d.1)))

    around_states : {n : _} (site : Surroundings) (strong : List Expr) (states : List Name) (row : Row_of-State n) → Each P (locals_around site) → Each HoldsInside (parts_of_states site strong states row) →
        Each HoldsAround (parts_of_states site strong states row)
    around_states site strong states end_of-State h d = tt
    around_states site strong states (more_of-State p name locals n body weak own rest) h d =
        let inner = State_of strong locals ∷ site in
        let hi : Each P (locals_around inner) = each_append P locals (locals_around site) d.0 h in
        let first = parts_of_all inner body in
        let w = transitions inner false states weak in
        let o = transitions site true states own in
        let others = parts_of_states site strong states rest in
        let here_d : Each HoldsInside (first ++ w ++ o) = each_left HoldsInside (first ++ w ++ o) others d.1 in
        let body_d : Each HoldsInside first = each_left HoldsInside first w (each_left HoldsInside (first ++ w) o here_d) in
        let here : Each HoldsAround (first ++ w ++ o) = each_append HoldsAround (first ++ w) o (each_append HoldsAround first w (around_all inner body hi body_d) (escapes_around inner false states weak hi)) (escapes_around site true states own h) in
        (hi, each_append HoldsAround (first ++ w ++ o) others here (around_states site strong states rest h (each_right HoldsInside (first ++ w ++ o) others d.1)))

  around_each : (site : Surroundings) (es : List Equation) → Each P (locals_around site) → Each HoldsInside (flat_map (parts_of site) es) → Each HoldsAround (flat_map (parts_of site) es)
  around_each site [] h d = tt
  around_each site (e ∷ es) h d =
      let others = flat_map (parts_of site) es in
      each_append HoldsAround (parts_of site e) others (around site e h (each_left HoldsInside (parts_of site e) others d)) (around_each site es h (each_right HoldsInside (parts_of site e) others d))

  each_inside : (qs : List Placed) → All (λ q. All P (declared_in q.part)) qs → Each HoldsInside qs
  each_inside [] h = tt
  each_inside (q ∷ qs) h = (recursion_from_All P (declared_in q.part) (All-head (λ (q : Placed). All P (declared_in q.part)) q qs h), each_inside qs (All-tail (λ (q : Placed). All P (declared_in q.part)) q qs h))

  all_around : (qs : List Placed) → Each HoldsAround qs → All (λ q. All P (locals_around q.site)) qs
  all_around [] h = All-nil (λ (q : Placed). All P (locals_around q.site))
  all_around (q ∷ qs) h = All-cons (λ (q : Placed). All P (locals_around q.site)) q qs (All-from_recursion P (locals_around q.site) h.0) (all_around qs h.1)

  pub around_parts : (node : Node) → All (λ q. All P (declared_in q.part)) (parts node) → All (λ q. All P (locals_around q.site)) (parts node)
  around_parts node h =
      let e = each_inside (parts node) h in
      all_around (parts node) (tt, around_each [] node.block.body tt e.1)

-- ---- types with tags

constructor_by : (b : Bool) (d : TypeDec) (known : Bool) (others : List Name) → (d.constructors ≡ [] → ⊥) → (known ≡ true → others ≡ [] → ⊥) → b || known ≡ true → (if b then d.constructors else others) ≡ [] → ⊥
constructor_by true d known others h later k e = h e
constructor_by false d known others h later k e = later k e

some_constructor : (types : List TypeDec) (t : Name) → HaveConstructors types → list_any (λ d. same t d.name) types ≡ true → constructors_of types t ≡ [] → ⊥
some_constructor [] t have known e = false≢true known
some_constructor (d ∷ ds) t have known e =
    constructor_by (same t d.name) d (list_any (λ d. same t d.name) ds) (constructors_of ds t) (All-head (λ (c : TypeDec). c.constructors ≡ [] → ⊥) d ds have)
    (some_constructor ds t (All-tail (λ (c : TypeDec). c.constructors ≡ [] → ⊥) d ds have)) known e

unmapped : {A B : Type 0} (f : A → B) (xs : List A) → map f xs ≡ [] → xs ≡ []
unmapped f [] e = refl
unmapped f (x ∷ xs) e = absurd (not_nil _ _ e)

pub some_tag : (types : List TypeDec) (t : Ty) → HaveConstructors types → type_is_known types t ≡ true → has_tags t ≡ true → tags_of types t ≡ [] → ⊥
some_tag types (ty.Plain Int) have known tagged e = false≢true tagged
some_tag types (ty.Plain Truth_value) have known tagged e = not_nil _ _ e
some_tag types (ty.Plain (Named t)) have known tagged e = some_constructor types t have known (unmapped tag.Constructor (constructors_of types t) e)
some_tag types (ty.Future t) have known tagged e = false≢true tagged

-- ---- declarations

declared_by : (P : Decl → Type 0) (b : Bool) (c d : Decl) (rest : Option Decl) → P c → (rest ≡ Some d → P d) → (if b then Some c else rest) ≡ Some d → P d
declared_by P true c d rest h later e = subst P some_is h
  where
    some_is : c ≡ d
    some_is = cc
declared_by P false c d rest h later e = later e

pub of_declared : (P : Decl → Type 0) (ds : List Decl) (x : Name) (d : Decl) → All P ds → declaration ds x ≡ Some d → P d
of_declared P [] x d h e = cc
of_declared P (c ∷ ds) x d h e = declared_by P (same x c.name) c d (declaration ds x) (All-head P c ds h) (of_declared P ds x d (All-tail P c ds h)) e
