-- `read` reads the messages sent and the books.
use Rattle.std.proofs.Common.{refl, sym}
use Rattle.books.proofs.FileQuestions.{head_none, sent_many, sent_bad, sent_twice, books_short, panels_bad, file_is}
use Rattle.books.proofs.File.read.Goals as goal

pub returns-in_err-sent : goal.returns-in_err-sent
returns-in_err-sent c = rw c.from_residual.ensures (head_none c.args.bytes.now c.in_err-sent.ensures)

pub returns-then-sent : goal.returns-then-sent
returns-then-sent c =
    let h = c.in_ok-sent.ensures in
    sent_many c.args.bytes.now h.0 c.in_ok-sent.sent.now c.in_ok-sent.books.now h.1 h.2 c.if-sent.true

pub returns-then-not-are_good : goal.returns-then-not-are_good
returns-then-not-are_good c =
    let h = c.in_ok-sent.ensures in
    sent_bad c.args.bytes.now h.0 c.in_ok-sent.sent.now c.in_ok-sent.books.now h.1 h.2 (sym c.if-not-are_good.ensures)

pub returns-in_err-of_set : goal.returns-in_err-of_set
returns-in_err-of_set c =
    let h = c.in_ok-sent.ensures in
    rw c.from_residual-in_err-of_set.ensures
    (sent_twice c.args.bytes.now h.0 c.in_ok-sent.sent.now c.in_ok-sent.books.now h.1 h.2 (sym c.if-not-are_good.ensures) c.if-sent.false
    c.of_set.result c.of_set.ensures c.in_err-of_set.was)

pub read-requires : goal.read-requires
read-requires c =
    let h = c.in_ok-sent.ensures in
    books_short c.args.bytes.now h.0 c.in_ok-sent.sent.now c.in_ok-sent.books.now h.1 h.2

pub returns-in_err-read : goal.returns-in_err-read
returns-in_err-read c =
    let h = c.in_ok-sent.ensures in
    rw c.from_residual-in_err-read.ensures (panels_bad c.args.bytes.now h.0 c.in_ok-sent.sent.now c.in_ok-sent.books.now h.1 h.2 c.in_err-read.ensures)

pub returns : goal.returns
returns c =
    let h = c.in_ok-sent.ensures in
    file_is c.args.bytes.now h.0 c.in_ok-sent.sent.now c.in_ok-sent.books.now h.1 h.2 (sym c.if-not-are_good.ensures) c.if-sent.false
    c.of_set.result c.of_set.ensures (record { sent = record { bytes = c.in_ok-sent.sent }; ranks = c.in_ok-of_set.field-0; books = c.in_ok-read.field-0 })
    c.in_ok-of_set.was c.in_ok-read.ensures.0 refl c.in_ok-read.ensures.1
