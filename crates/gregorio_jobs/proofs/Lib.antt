mod answers
