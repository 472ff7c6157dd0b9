use Rattle.std.proofs.Common.{◌≡◌, None, get_or, arith}
use Rattle.dfdl_splice.specs.declared.entry.Entry.{Entry}
use Rattle.dfdl_splice.specs.declared.entry.Entry.TheVariants.{Awaits}
use Rattle.dfdl_splice.proofs.Entries.{awaited_at, awaited_of, for_piece}
use Rattle.dfdl_splice.proofs.table.awaits_in.Goals as goal

pub returns-then-at-entries : goal.returns-then-at-entries
returns-then-at-entries c = λ bits. (
  λ e. absurd (cc),
  λ there.
      let w = awaited_at bits c.args.entries.now c.args.piece c.args.count there in
      let any : Entry = Awaits 0 None in
      let is : c.find-at.result ≡ w.0 = c.find-at.ensures w.0 any w.1 (for_piece (get_or c.args.entries.now w.0 any) c.args.piece c.args.count (w.2 any)) in
      absurd (omega (arith, w.1)),
)

pub returns : goal.returns
returns c = λ bits. (
  λ e. awaited_of bits c.args.entries.now c.args.piece c.args.count c.find-at.result _ (omega arith) (c.awaits.ensures.0 e),
  λ there.
      let w = awaited_at bits c.args.entries.now c.args.piece c.args.count there in
      let any : Entry = Awaits 0 None in
      let is : c.find-at.result ≡ w.0 = c.find-at.ensures w.0 any w.1 (for_piece (get_or c.args.entries.now w.0 any) c.args.piece c.args.count (w.2 any)) in
      c.awaits.ensures.1 (rw is (w.2 _)),
)
