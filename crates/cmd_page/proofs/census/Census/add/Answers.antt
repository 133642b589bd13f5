use Rattle.std.proofs.Common.{arith}
use Rattle.cmd_page.proofs.PageLaws.{by_entries, by_kind, by_steps, capped_more}
use Rattle.cmd_page.proofs.census.Census.add.Goals as goal

pub returns : goal.returns
returns c = λ rs counted. record {
  kinds = capped_more by_kind 256 _ rs c.args.board.now.records c.args.self.now.kinds c.census_of-more.result.kinds c.add_up.new.counts (omega arith) counted.kinds c.census_of-more.ensures.kinds c.add_up.ensures.sums;
  entries = capped_more by_entries 15 _ rs c.args.board.now.records c.args.self.now.entries c.census_of-more.result.entries c.add_up-2.new.counts (omega arith) counted.entries c.census_of-more.ensures.entries c.add_up-2.ensures.sums;
  steps = capped_more by_steps 64 _ rs c.args.board.now.records c.args.self.now.steps c.census_of-more.result.steps c.add_up-3.new.counts (omega arith) counted.steps c.census_of-more.ensures.steps c.add_up-3.ensures.sums;
}
