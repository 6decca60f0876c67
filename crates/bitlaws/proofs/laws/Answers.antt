use Rattle.bitlaws.proofs.Ranks.{rank_counts_lem, rank_steps_lem, rank_rises_lem}
use Rattle.bitlaws.proofs.Selects.{select_finds_lem, select_lacks_lem}
use Rattle.bitlaws.proofs.Firsts.{first_finds_lem, first_lacks_lem}
use Rattle.bitlaws.proofs.Holding.{one_holding_lem}
use Rattle.bitlaws.proofs.Forming.{form_holds_lem}
use Rattle.bitlaws.proofs.laws.Goals as goal

pub returns : goal.returns
returns c = record {
  rank_counts = rank_counts_lem;
  rank_steps = rank_steps_lem;
  rank_rises = rank_rises_lem;
  select_finds = select_finds_lem;
  select_lacks = select_lacks_lem;
  first_finds = first_finds_lem;
  first_lacks = first_lacks_lem;
  one_holding = one_holding_lem;
  form_holds = form_holds_lem;
}
