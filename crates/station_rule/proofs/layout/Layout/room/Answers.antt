use Rattle.std.proofs.Common.{rules, ◌≡◌, ◌<◌, length, ◌+◌, ◌*◌, ◌/◌, ◌++◌, ◌∷◌, [], ℕ, List, take, get_or, arith, ap, sym, ◌∙◌}
use Rattle.std.proofs.lemmas.List.{map-append, take_more}
use Rattle.owner_pool.specs.Noting.{room_for}
use Rattle.station_rule.specs.Key.{Key}
use Rattle.station_rule.specs.declared.layout.Site.{Site}
use Rattle.station_rule.specs.Pools.{size_of, sizes_of}
use Rattle.station_rule.proofs.Pooled.{room_push}
use Rattle.station_rule.proofs.layout.Layout.room.Goals as goal

pub loop-index-preserved : goal.loop-index-preserved
loop-index-preserved c =
    let ts : List Site = c.args.self.now.sites in
    let k : ℕ = c.loop-index.index in
    let t : Site = c.index-site.result.now in
    let items : c.self.inside.sites.items ≡ ts = ap (λ (y : Key). y.sites) c.self.view_is in
    let near : k < length ts = (let l = ap length items in let n : k < length c.self.inside.sites.items = search rules in omega arith) in
    let here : t ≡ get_or ts k t = c.index-site.ensures ∙ ap (λ (l : List Site). get_or l k t) items in
    let next : take (k + 1) ts ≡ take k ts ++ t ∷ [] = take_more ts k t near ∙ ap (λ (s : Site). take k ts ++ s ∷ []) (sym here) in
    let names : c.in_ok-names.names ≡ t.queue * (t.width / 2 + 1) = search rules in
    let room : c.in_ok-room.room ≡ c.loop-index.room + c.in_ok-names.names = search rules in
    let was = c.loop-index.invariant in
    let all = ap (λ (l : List Site). room_for (sizes_of l)) next ∙ (ap room_for (map-append size_of (take k ts) (t ∷ [])) ∙ room_push (sizes_of (take k ts)) (size_of t)) in
    omega arith
