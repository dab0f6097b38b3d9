use Rattle.std.proofs.Common.{rules, ◌≡◌, length, ℕ, get_or, replicate, ap, ◌∙◌}
use Rattle.station_rule.proofs.Lists.{replicate_zeros}
use Rattle.station_rule.proofs.Coming.{opens}
use Rattle.station_rule.proofs.station.Station.open.Goals as goal

pub new-requires : goal.new-requires
new-requires g c =
    let long : length c.as_slice.result.now ≡ c.args.layout.words = search rules in
    let same : c.as_slice.result.now ≡ replicate c.word_count-count.result 0 = search rules in
    let zero_all : (i : ℕ) → get_or c.as_slice.result.now i 0 ≡ 0 = λ i. ap (λ l. get_or l i 0) same ∙ replicate_zeros c.word_count-count.result i in
    opens g.N.Meaning.stands g.N.Meaning.given c.args.layout c.as_slice.result.now c.args.memories.items c.requires.layout.0 long c.requires.memories.0 zero_all c.requires.memories.1
