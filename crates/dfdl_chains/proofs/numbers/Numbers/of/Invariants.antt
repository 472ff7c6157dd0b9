use Rattle.std.proofs.Common.{◌≡◌, ◌<◌, ◌^◌, ℕ, length, get_or}
use Rattle.dfdl_components.specs.Recursion.{start_of}
use Rattle.dfdl_chains.proofs.numbers.Numbers.of.Given as goal

abbrev pub invariant-loop-document : goal.invariant-loop-document
invariant-loop-document l = record {
  counted : length l.starts.items ≡ l.document;
  starts : (d : ℕ) → d < l.document → get_or l.starts.items d 0 ≡ start_of l.schema d;
  count : l.count ≡ start_of l.schema l.document;
  few : l.count < 2 ^ 32;
}
