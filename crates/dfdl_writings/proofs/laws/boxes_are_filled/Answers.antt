use Rattle.dfdl_writings.specs.Characters.{characters}
use Rattle.dfdl_writings.specs.declared.form.Room.TheVariants.{Bits}
use Rattle.dfdl_writings.proofs.Fills.{content_fills, nil_fills, binary_fills}
use Rattle.dfdl_writings.proofs.laws.boxes_are_filled.Goals as goal

pub returns : goal.returns
returns c = record {
  texts = λ writing form n opened value written is. content_fills writing form n opened (characters form.encoding (Bits n) form.content value) written is;
  nils = λ writing nil pad n written is. nil_fills writing nil pad n nil.texts written is;
  fields = binary_fills;
}
