-- The node of each site of a core is the first of a name.
use Rattle.std.proofs.Common.{◌≡◌, ℕ, Bool, true, false, if◌then◌else◌, List, [], ◌∷◌, Option, Some, None, All, refl, subst}
use Rattle.std.specs.List.{find}
use Rattle.std.specs.Option.{option_map}
use Rattle.std.proofs.lemmas.List.Elements.{All-nil, All-cons, All-head, All-tail, All-append}
use Rattle.std.proofs.lemmas.Slice.Eq.{bytes_eq-Decides}
use Rattle.hept_ast.specs.Texts.{Name, same}
use Rattle.hept_ast.specs.Scopes.{Clock, Scope, Lowered, Top}
use Rattle.hept_ast.specs.Meaning.{Setting}
use Rattle.hept_ast.specs.Settings.{Marks, Replies, of_core}
use Rattle.hept_ast.specs.Sites.{Piece, Expression, Statement, Core_statement, Body, Site, Sites, SitesOf, whole, SitesOfAll, none, first, async_site, by_number, form_site, insert, is_before, own_site, path_of, pieces}
use Rattle.hept_ast.specs.declared.tree.Core.{Core}
use Rattle.hept_ast.specs.declared.tree.CoreNode.{CoreNode}
use Rattle.hept_ast.specs.declared.tree.Expr.{Expr}
use Rattle.hept_ast.specs.declared.tree.MergeBranch.{MergeBranch}
use Rattle.hept_ast.specs.declared.tree.Form.{Form, out-Form}
use Rattle.hept_ast.specs.declared.tree.Form.TheOpen.{Form-F}

-- ---- the first node of a name

found_here : (x : Name) (b : Bool) (m node : CoreNode) (ms : List CoreNode) → same x m.name ≡ b → (if b then Some m else find (λ m. same x m.name) ms) ≡ Some node →
    (find (λ m. same x m.name) ms ≡ Some node → x ≡ node.name) → x ≡ node.name
found_here x true m node ms e f later = let g : x ≡ m.name = (bytes_eq-Decides x m.name).0 e in let k : m ≡ node = cc in subst (λ (c : CoreNode). x ≡ c.name) k g
found_here x false m node ms e f later = later f

pub found_name : (x : Name) (nodes : List CoreNode) (node : CoreNode) → find (λ m. same x m.name) nodes ≡ Some node → x ≡ node.name
found_name x [] node e = cc
found_name x (m ∷ ms) node e = found_here x (same x m.name) m node ms refl e (found_name x ms node)

pub record IsNamedSite (core : Core) (site : Site) : Type 0 where
  pub name : Name
  pub node : CoreNode
  pub found : find (λ m. same name m.name) core.nodes ≡ Some node
  pub text : site.text ≡ Lowered node

-- ---- lists of sites

module _ (core : Core) where
  abbrev pub AreNamed : List Site → Type 0
  AreNamed sites = All (IsNamedSite core) sites

  no_sites : AreNamed []
  no_sites = All-nil (IsNamedSite core)

  named_insert : (a : Site) (bs : List Site) → IsNamedSite core a → AreNamed bs → AreNamed (insert a bs)
  named_insert a [] h k = All-cons (IsNamedSite core) a [] h no_sites
  named_insert a (b ∷ bs) h k = go (is_before (path_of a) (path_of b)) (named_insert a bs h (All-tail (IsNamedSite core) b bs k))
    where
      go : (x : Bool) → AreNamed (insert a bs) → AreNamed (if x then a ∷ b ∷ bs else b ∷ insert a bs)
      go true later = All-cons (IsNamedSite core) a (b ∷ bs) h k
      go false later = All-cons (IsNamedSite core) b (insert a bs) (All-head (IsNamedSite core) b bs k) later

  named_by_number : (sites : List Site) → AreNamed sites → AreNamed (by_number sites)
  named_by_number [] h = no_sites
  named_by_number (a ∷ sites) h = named_insert a (by_number sites) (All-head (IsNamedSite core) a sites h) (named_by_number sites (All-tail (IsNamedSite core) a sites h))

  module _ (marked : Marks) (replies : Replies) where
    abbrev w : Setting
    w = of_core core marked replies

    named_call : (q : ℕ) (f : Name) (args : List Expr) (place : ℕ) (clock : Clock) (s : Scope) → AreNamed (async_site w (w.node f) q args place clock s)
    named_call q f args place clock s = go (find (λ m. same f m.name) core.nodes) refl
      where
        go : (o : Option CoreNode) → find (λ m. same f m.name) core.nodes ≡ o → AreNamed (async_site w (option_map Lowered o) q args place clock s)
        go None e = no_sites
        go (Some m) e =
            All-cons (IsNamedSite core) (record { scope = s; clock = clock; place = place; queue = q; args = args; text = Lowered m }) []
            (record { name = f; node = m; found = e; text = refl }) no_sites

    named_form : (f : Form-F Form Expr MergeBranch) (e : Expr) (clock : Clock) (s : Scope) → AreNamed (form_site w f e clock s)
    named_form (Form-F.AsyncCall q f args) e clock s = named_call q f args e.place.0 clock s
    named_form (Form-F.Const k) e clock s = no_sites
    named_form (Form-F.Var x) e clock s = no_sites
    named_form (Form-F.Last x) e clock s = no_sites
    named_form (Form-F.Unary op a) e clock s = no_sites
    named_form (Form-F.Binary op a b) e clock s = no_sites
    named_form (Form-F.If i a b) e clock s = no_sites
    named_form (Form-F.Fby a b) e clock s = no_sites
    named_form (Form-F.Pre a) e clock s = no_sites
    named_form (Form-F.Arrow a b) e clock s = no_sites
    named_form (Form-F.When a tag x) e clock s = no_sites
    named_form (Form-F.Merge x branches) e clock s = no_sites
    named_form (Form-F.Call f args) e clock s = no_sites
    named_form (Form-F.AsyncConst k) e clock s = no_sites
    named_form (Form-F.Get a) e clock s = no_sites

    named_own : (piece : Piece) → AreNamed (own_site w piece)
    named_own (Expression e clock s) = named_form (out-Form e.form) e clock s
    named_own (Statement e s) = no_sites
    named_own (Core_statement e s) = no_sites
    named_own (Body s) = no_sites

    mutual
      named_of : (piece : Piece) (sites : List Site) → SitesOf w piece sites → AreNamed sites
      named_of piece _ (whole {sites = ss} h) = All-append (IsNamedSite core) (own_site w piece) ss (named_own piece) (named_of_all (pieces w piece) ss h)

      named_of_all : (ps : List Piece) (sites : List Site) → SitesOfAll w ps sites → AreNamed sites
      named_of_all _ _ none = no_sites
      named_of_all _ _ (first {piece = p} {rest = ps} {sites = fs} {others = bs} h hs) = All-append (IsNamedSite core) fs bs (named_of p fs h) (named_of_all ps bs hs)

    pub named_sites : (node : CoreNode) (sites : List Site) → Sites w (Lowered node) sites → AreNamed sites
    named_sites node sites h = subst (λ (l : List Site). AreNamed l) h.order (named_by_number h.found (named_of (Body (Top (Lowered node))) h.found h.all))
