use Rattle.std.proofs.Common.{◌≡◌, ℕ, length, take, ap, sym, ◌∙◌, subst}
use Rattle.std.specs.Str.{chars}
use Rattle.dfdl_markup.specs.Building.{Stays, build}
use Rattle.dfdl_xml_chars.specs.Shown.{bytes_of}
use Rattle.dfdl_doc_tree.specs.Plain.{IsPassed, IsPassedBy, quiet, reads}
use Rattle.dfdl_doc_tree.specs.ReaderShown.{reader_seen}
use Rattle.dfdl_doc_tree.specs.ScannerShown.{state_seen}
use Rattle.dfdl_doc_tree.proofs.AsciiRuns.{plain_ascii}
use Rattle.dfdl_doc_tree.proofs.RunsRead.{quiet_run, text_run, grown, from_between, taken_length}
use Rattle.dfdl_doc_tree.proofs.reader.Reader.pass.Goals as goal

pub as_text-text-requires : goal.as_text-text-requires
as_text-text-requires c =
    let passed : IsPassedBy _ (state_seen c.args.self.now.scanner) c.args.bytes.now (state_seen c.pass.new.self) = c.in_ok-count.ensures in
    let is : IsPassed reads (state_seen c.args.self.now.scanner) c.args.bytes.now c.in-Text.count (state_seen c.pass.new.self) =
    subst (λ p. IsPassedBy p (state_seen c.args.self.now.scanner) c.args.bytes.now (state_seen c.pass.new.self)) c.in-Text.is passed in
    plain_ascii (take c.in-Text.count c.args.bytes.now) is.plain

pub returns-in-Quiet-clause-read : goal.returns-in-Quiet-clause-read
returns-in-Quiet-clause-read c =
    let count : ℕ = c.in-Quiet.count in
    let bytes = c.args.bytes.now in
    let is : IsPassed quiet (state_seen c.args.self.now.scanner) bytes count (state_seen c.pass.new.self) =
    subst (λ p. IsPassedBy p (state_seen c.args.self.now.scanner) bytes (state_seen c.pass.new.self)) c.in-Quiet.is c.in_ok-count.ensures in
    let long : length (take count bytes) ≡ count = taken_length count bytes is.within in
    from_between (reader_seen c.args.self.now) _ (bytes_of c.args.self.now.begun) (ap bytes_of c.requires.between)
    (take count bytes)
    (quiet_run (state_seen c.args.self.now.scanner) (state_seen c.pass.new.self) c.args.self.now.growing c.stays.new.self
    (take count bytes) is.plain is.passes
    (c.stays.ensures ∙ ap (λ n. build Stays n c.args.self.now.growing) (sym long)))

pub returns-in_ok-reads_all-in-Text-clause-read : goal.returns-in_ok-reads_all-in-Text-clause-read
returns-in_ok-reads_all-in-Text-clause-read c =
    let count : ℕ = c.in-Text.count in
    let bytes = c.args.bytes.now in
    let old = c.args.self.now.growing in
    let is : IsPassed reads (state_seen c.args.self.now.scanner) bytes count (state_seen c.pass.new.self) =
    subst (λ p. IsPassedBy p (state_seen c.args.self.now.scanner) bytes (state_seen c.pass.new.self)) c.in-Text.is c.in_ok-count.ensures in
    let long : length (take count bytes) ≡ count = taken_length count bytes is.within in
    from_between (reader_seen c.args.self.now) _ (bytes_of c.args.self.now.begun) (ap bytes_of c.requires.between)
    (take count bytes)
    (text_run (state_seen c.args.self.now.scanner) (state_seen c.pass.new.self) old c.reads_all.new.self
    (take count bytes) c.requires.line is.plain is.passes
    (c.in_ok-reads_all-in-Text.ensures
    ∙ grown old (chars c.as_text-text.result.now) (take count bytes) count c.as_text-text.ensures long))
