-- The parts of a node, where the node's own declarations stand behind those of the blocks around each part.
use Rattle.std.proofs.Common.{◌≡◌, Bool, true, false, List, [], ◌∷◌, ◌++◌, refl, sym, ◌∙◌, ap, map, append-nil, append_assoc}
use Rattle.std.proofs.lemmas.List.{map-append}
use Rattle.hept_ast.specs.Texts.{Name}
use Rattle.hept_ast.specs.Parts.{Branch_of, Body_of, State_of, Surroundings, Part, Block, Plain, Switch, Reset, Automaton, Transition, Placed, equations_in, branches_in, states_in, strong_in, sets_of_body, transitions, parts_of, parts_of_all, parts_of_branches, parts_of_body, parts_of_states, locals_around}
use Rattle.hept_ast.specs.declared.tree.Decl.{Decl}
use Rattle.hept_ast.specs.declared.tree.Expr.{Expr}
use Rattle.hept_ast.specs.declared.tree.Escape.{Escape}
use Rattle.hept_ast.specs.declared.tree.Equation.{Equation, Define, Switch', Reset', Automaton', Row_of-Equation, end_of-Equation, more_of-Equation, Row_of-Branch, end_of-Branch, more_of-Branch, Row_of-Block, end_of-Block, more_of-Block, Row_of-State, end_of-State, more_of-State}
use Rattle.hept_ast.proofs.Unfolded.{static}
use Rattle.hept_ast.specs.SeenParts.{SeenPart, seen_in, site_with, seen_parts}

-- a part, where these are seen behind what the blocks around it declare
abbrev pub own_in : List Decl → Placed → SeenPart
own_in own q = record { inner = locals_around q.site ++ own; part = q.part }

joined : (own : List Decl) (xs ys us vs : List Placed) → map (own_in own) xs ≡ map seen_in us → map (own_in own) ys ≡ map seen_in vs → map (own_in own) (xs ++ ys) ≡ map seen_in (us ++ vs)
joined own xs ys us vs e h = map-append (own_in own) xs ys ∙ (ap (λ t. t ++ map (own_in own) ys) e ∙ (ap (λ t. map seen_in us ++ t) h ∙ sym (map-append seen_in us vs)))

headed : (ds es : List Decl) (part : Part) (xs ys : List SeenPart) → ds ≡ es → xs ≡ ys → record { inner = ds; part = part } ∷ xs ≡ record { inner = es; part = part } ∷ ys
headed ds es part xs ys e h = ap (λ t. record { inner = t; part = part } ∷ xs) e ∙ ap (λ t. record { inner = es; part = part } ∷ t) h

own_escapes : (own : List Decl) (s t : Surroundings) (strong : Bool) (names : List Name) (es : List Escape) → locals_around s ++ own ≡ locals_around t
    → map (own_in own) (transitions s strong names es) ≡ map seen_in (transitions t strong names es)
own_escapes own s t strong names [] h = refl
own_escapes own s t strong names (e ∷ es) h = headed _ _ (Transition strong names e) _ _ h (own_escapes own s t strong names es h)

within : (locals own ds es : List Decl) → ds ++ own ≡ es → (locals ++ ds) ++ own ≡ locals ++ es
within locals own ds es h = append_assoc locals ds own ∙ ap (λ t. locals ++ t) h

mutual
  unfolding static

  free : (own : List Decl) (s t : Surroundings) → locals_around s ++ own ≡ locals_around t → (e : Equation) → map (own_in own) (parts_of s e) ≡ map seen_in (parts_of t e)
  free own s t h (Define p left right) = headed _ _ (Plain p.0 left right) _ _ h refl
  free own s t h (Switch' p on n branches) = headed _ _ (Switch p.0 on (branches_in branches)) _ _ h (free_branches own s t h on branches)
  free own s t h (Reset' p n body every) = headed _ _ (Reset p.0 every (sets_of_body body)) _ _ h (free_body own s t h every body)
  free own s t h (Automaton' p n states) = headed _ _ (Automaton p.0 (states_in states)) _ _ h (free_states own s t h (strong_in states) (map (λ c. c.label) (states_in states)) states)

  free_all : {n : _} (own : List Decl) (s t : Surroundings) → locals_around s ++ own ≡ locals_around t → (row : Row_of-Equation n) → map (own_in own) (parts_of_all s row) ≡ map seen_in (parts_of_all t row)
  free_all own s t h end_of-Equation = refl
  free_all own s t h (more_of-Equation e rest) = joined own (parts_of s e) (parts_of_all s rest) (parts_of t e) (parts_of_all t rest) (free own s t h e) (free_all own s t h rest)

  free_branches : {n : _} (own : List Decl) (s t : Surroundings) → locals_around s ++ own ≡ locals_around t → (on : Expr) (row : Row_of-Branch n) → map (own_in own) (parts_of_branches s on row) ≡ map seen_in (parts_of_branches t on row)
  free_branches own s t h on end_of-Branch = refl
  free_branches own s t h on (more_of-Branch p tag locals n body rest) =
      let si = Branch_of on locals ∷ s in
      let ti = Branch_of on locals ∷ t in
      let hi : locals_around si ++ own ≡ locals_around ti = within locals own (locals_around s) (locals_around t) h in
      headed _ _ (Block locals (equations_in body)) _ _ hi (joined own (parts_of_all si body) (parts_of_branches s on rest) (parts_of_all ti body) (parts_of_branches t on rest) (free_all own si ti hi body) (free_branches own s t h on rest))

  free_body : {n : _} (own : List Decl) (s t : Surroundings) → locals_around s ++ own ≡ locals_around t → (every : Expr) (row : Row_of-Block n) → map (own_in own) (parts_of_body s every row) ≡ map seen_in (parts_of_body t every row)
  free_body own s t h every end_of-Block = refl
  free_body own s t h every (more_of-Block locals n body rest) =
      let si = Body_of every locals ∷ s in
      let ti = Body_of every locals ∷ t in
      let hi : locals_around si ++ own ≡ locals_around ti = within locals own (locals_around s) (locals_around t) h in
      headed _ _ (Block locals (equations_in body)) _ _ hi (joined own (parts_of_all si body) (parts_of_body s every rest) (parts_of_all ti body) (parts_of_body t every rest) (free_all own si ti hi body) (free_body own s t h every rest))

  free_states : {n : _} (own : List Decl) (s t : Surroundings) → locals_around s ++ own ≡ locals_around t → (strong : List Expr) (names : List Name) (row : Row_of-State n) → map (own_in own) (parts_of_states s strong names row) ≡ map seen_in (parts_of_states t strong names row)
  free_states own s t h strong names end_of-State = refl
  free_states own s t h strong names (more_of-State p name locals n body weak escapes rest) =
      let si = State_of strong locals ∷ s in
      let ti = State_of strong locals ∷ t in
      let hi : locals_around si ++ own ≡ locals_around ti = within locals own (locals_around s) (locals_around t) h in
      headed _ _ (Block locals (equations_in body)) _ _ hi
      (joined own (parts_of_all si body ++ transitions si false names weak ++ transitions s true names escapes) (parts_of_states s strong names rest)
      (parts_of_all ti body ++ transitions ti false names weak ++ transitions t true names escapes) (parts_of_states t strong names rest)
      (joined own (parts_of_all si body ++ transitions si false names weak) (transitions s true names escapes) (parts_of_all ti body ++ transitions ti false names weak) (transitions t true names escapes)
      (joined own (parts_of_all si body) (transitions si false names weak) (parts_of_all ti body) (transitions ti false names weak) (free_all own si ti hi body) (own_escapes own si ti false names weak hi)) (own_escapes own s t true names escapes h))
      (free_states own s t h strong names rest))

-- the parts inside an equation of a node's own block
pub own_parts : (own : List Decl) (e : Equation) → map (own_in own) (parts_of [] e) ≡ seen_parts own e
own_parts own e = free own [] (site_with own) (sym (append-nil own)) e
