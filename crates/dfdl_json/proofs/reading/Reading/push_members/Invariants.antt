use Rattle.std.proofs.Common.{◌≡◌}
use Rattle.serde_json.specs.View.{members_view}
use Rattle.dfdl_json.specs.Reading.{data_at}
use Rattle.dfdl_json.proofs.Contents.{ArePushed}
use Rattle.dfdl_json.proofs.reading.Reading.push_members.Given as goal

abbrev pub invariant-loop-at : goal.invariant-loop-at
invariant-loop-at l = record {
  names : l.self.around ≡ l.fn.self.around;
  found : l.self.found ≡ l.fn.self.found;
  pushed : ArePushed l.terms l.elements l.at (members_view l.members.entries) l.self.tasks.items l.fn.self.tasks.items
      (data_at l.self.contents.items) (data_at l.fn.self.contents.items);
}
