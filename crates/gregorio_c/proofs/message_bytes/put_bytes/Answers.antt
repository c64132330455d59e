use Rattle.gregorio_c.proofs.message_bytes.put_bytes.Goals as goal

pub returns : goal.returns
returns c = let put = c.put_all.ensures in record { limits = c.default.result; usual = c.default.ensures; bytes = rw c.new-reader.ensures at put }
