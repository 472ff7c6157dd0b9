use Rattle.std.proofs.Common.{◌≡◌}
use Rattle.dfdl_json.specs.Reading.{data_at}
use Rattle.dfdl_json.proofs.Contents.{AreItemsPushed}
use Rattle.dfdl_json.proofs.reading.Reading.push_items.Given as goal

abbrev pub invariant-loop-at : goal.invariant-loop-at
invariant-loop-at l = record {
  names : l.self.around ≡ l.fn.self.around;
  found : l.self.found ≡ l.fn.self.found;
  pushed : AreItemsPushed l.row l.items l.at l.self.tasks.items l.fn.self.tasks.items (data_at l.self.contents.items) (data_at l.fn.self.contents.items);
}
