use Rattle.std.proofs.Common.{◌/◌, ◌≤◌, Bool, List, [], ◌∷◌, ◌++◌, length, sym, ap, ◌∙◌, subst, arith}
use Rattle.std.proofs.lemmas.List.{length_push}
use Rattle.bitlaws.specs.Bits.{Counted}
use Rattle.bitlaws.proofs.Words.{length_bits}
use Rattle.bitlaws.proofs.Counts.{lag, caught}
use Rattle.bits.specs.Columns.{column_bits}
use Rattle.bits.proofs.rank_select.RankSelect.add_to_tail.Goals as goal

pub invariant_of-self : goal.invariant_of-self
invariant_of-self g c =
    let s = c.args.self.now in
    let cs = g.C.ReadStore.list s.counts in
    let bs = column_bits g.V.ReadStore s in
    let bit = c.args.bit in
    let list = c.add_bits.ensures.list ∙ ap (λ (x : List Bool). bs ++ x) c.one.ensures.list in
    let long = length_bits (g.V.ReadStore.list s.values.values) s.values.tail.word s.values.tail.bits in
    let all : length (bs ++ (bit ∷ [])) / 1024 ≤ length cs = omega (arith, length_push bs bit, long, c.requires.stays, s.counted.many) in
    record { counted = subst (λ (x : List Bool). Counted cs x) (sym list) (caught cs (bs ++ (bit ∷ [])) (lag cs bs (bit ∷ []) s.counted) all) }
