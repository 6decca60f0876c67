use Rattle.std.proofs.Common.{◌≡◌, ℕ, ◌+◌, ◌/◌, ◌≤◌, Bool, List, length, sym, ap, ◌∙◌, subst, length-append}
use Rattle.bitlaws.specs.Bits.{low_bits, Lagging}
use Rattle.bitlaws.proofs.Words.{length_low}
use Rattle.bitlaws.proofs.Counts.{lag}
use Rattle.bits.specs.Columns.{column_bits}
use Rattle.bits.proofs.Growing.{fits_all}
use Rattle.bits.proofs.rank_select.RankSelect.add_bits.Goals as goal

pub update_counts-requires : goal.update_counts-requires
update_counts-requires g c =
    let s = c.args.self.now in
    let cs = g.C.ReadStore.list s.counts in
    let bs = column_bits g.V.ReadStore s in
    let n = c.args.group.count in
    let more = low_bits n c.args.group.word in
    let long : length more ≡ n = length_low n c.args.group.word in
    let all = fits_all (length bs + n) (g.V.GrowStore.room s.values.values) (g.C.GrowStore.room s.counts) c.requires in
    record {
      lagging = subst (λ (x : List Bool). Lagging cs x) (sym c.add_bits.ensures.list) (lag cs bs more s.counted);
      room = subst (λ (x : ℕ). x / 1024 ≤ g.C.GrowStore.room s.counts) (sym (ap length c.add_bits.ensures.list ∙ length-append bs more ∙ ap (λ (x : ℕ). length bs + x) long)) all.1;
    }
