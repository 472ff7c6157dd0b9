use Rattle.dfdl_bits.proofs.Stores.{put_be_16, put_le_16}
use Rattle.dfdl_bits.proofs.word.store_16.Goals as goal

pub returns-in-Big : goal.returns-in-Big
returns-in-Big c =
    rw c.in-Big.is
    (put_be_16 c.args.bytes.now c.write_at.new.bytes c.args.first c.args.value c.requires c.ranges.value.fits (rw c.to_be_bytes.ensures at c.write_at.ensures))

pub returns-in-Little : goal.returns-in-Little
returns-in-Little c =
    rw c.in-Little.is
    (put_le_16 c.args.bytes.now c.write_at-in-Little.new.bytes c.args.first c.args.value c.requires c.ranges.value.fits
    (rw c.to_le_bytes.ensures at c.write_at-in-Little.ensures))
