-- `text::put::put_bytes` meets its contract.
-- What `copy_from_slice` leaves of the part from `at` on, with what stands before and after it, is the splice. Assumes nothing.
use Rattle.std.proofs.Common.{refl}
use Rattle.text.proofs.PutLaws.{put_part}
use Rattle.text.proofs.put.put_bytes.Goals as goal

pub returns : goal.returns
returns c = (refl, put_part c.args.at c.args.out.now c.args.bytes.now c.copy_from_slice.new.self c.requires c.copy_from_slice.ensures.after)
