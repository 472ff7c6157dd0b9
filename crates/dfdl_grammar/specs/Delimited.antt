-- Contents that terminating markup ends. 'Simple Types' (lengthKind delimited, escape schemes).
use Rattle.std.specs.Prelude.{ℕ, ◌/◌, List, map}
use Rattle.dfdl_terms.specs.declared.text.ScanForm.{ScanForm}
use Rattle.dfdl_delims.specs.Deciding.{goes_on}
use Rattle.dfdl_delims.specs.Lists.{Opened}
use Rattle.dfdl_escapes.specs.declared.character.Character.{Character}
use Rattle.dfdl_escapes.specs.declared.form.Form.{Form}
use Rattle.dfdl_escapes.specs.declared.form.Stand.{Stand}
use Rattle.dfdl_escapes.specs.Contents.{Content, content_at}
use Rattle.dfdl_escapes.specs.Steps.{Step, first_mode, stand, step_at}
use Rattle.dfdl_looks.specs.Asks.{Ask}
use Rattle.dfdl_grammar.specs.Framing.{aligned}

-- how a content is scanned in a box that ends at a bit
abbrev pub scanned_as : ScanForm → ℕ → Form
scanned_as scan stop = record {
  escape = scan.escape;
  escape_escape = scan.escape_escape;
  start = scan.start;
  end = scan.end;
  lead = scan.lead;
  enc = scan.encoding;
  replaces = scan.replaces;
  stop = stop;
}

-- where the scan of a content begins whose box begins at a bit: at the next whole byte
abbrev pub scanned_from : ScanForm → ℕ → Stand
scanned_from scan bit = stand (first_mode scan.kind) (aligned 8 bit / 8)

-- the content at a bit, up to a text of these lists, in a box that ends at another bit
abbrev pub scanned : List Opened → ScanForm → ℕ → ℕ → Ask Content
scanned lists scan bit stop = content_at (goes_on lists) lists (scanned_as scan stop) (scanned_from scan bit)

-- the first step of that
abbrev pub first_step : List Opened → ScanForm → ℕ → ℕ → Ask Step
first_step lists scan bit stop = step_at (goes_on lists) lists (scanned_as scan stop) (scanned_from scan bit)

-- the characters, escaped or not
abbrev pub plain : List Character → List ℕ
plain characters = map (λ x. x.c) characters
