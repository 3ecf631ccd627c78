-- What the program prints of a run file.
use Rattle.std.specs.Prelude.{cond, List, ◌++◌, ℕ, ◌+◌, eqb}
use Rattle.model.specs.Tables.{scratch_size}
use Rattle.model.specs.Records.{byte}
use Rattle.model.specs.Questions.{first_no, file_questions}
use Rattle.model.specs.Runs.{progress, header, footer}

-- the bytes of the header line of a number of one digit, of the listing that the run is lent, and of the longest end line
abbrev pub header_size : ℕ
header_size = 14

abbrev pub listing_size : ℕ
listing_size = 16384

abbrev pub footer_size : ℕ
footer_size = 29

-- the bytes of a text with room for all three
abbrev pub text_size : ℕ
text_size = header_size + listing_size + footer_size

-- the header line, the lines and the end line of the run; only the end line of a file that questions 1 to 3 refuse
unfoldable pub printed : List ℕ → List ℕ
printed s =
    let k = first_no (file_questions s) in
    let p = progress s scratch_size listing_size in
    let whole = header (byte s 1) ++ (p.lines ++ footer p.events p.refusal) in
    cond (eqb k 0) whole (footer 0 k)
